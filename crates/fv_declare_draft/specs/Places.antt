-- Places in the objects of a type: how they are written, and what stands at them and inside them.
use Rattle.std.specs.Prelude.{ℕ, List, [], ◌∷◌, ◌++◌, map, Option, None, option_map, if◌then◌else◌, codes}
use Rattle.std.specs.Cmp.Lexicographic.{slice_cmp}
use Rattle.std.specs.Ordering.{nat_cmp, match_ordering}
use Rattle.serde_json.specs.Data as json
use Rattle.serde_json.specs.Find.{as_str}
use Rattle.fv_datum.specs.Forms.{required, map2, map3}
use Rattle.fv_datum.specs.Lookup.{at_name}
use Rattle.fv_datum.specs.Members.{has_only}
use Rattle.fv_datum.specs.declared.kind.Kind.{Kind}
use Rattle.fv_extract.specs.Places.{PlaceStep, element, key, value, content}
use Rattle.fv_bundle.specs.Types.{TypeUse, texts, integers, decimals, booleans, dates, instants, references, lists, maps, optionals, kind_of}
use Rattle.fv_declare_draft.specs.Cascades.{CascadeDraft, cascade_of}
use Rattle.fv_declare_draft.specs.Uses.{UseDraft, uses_of}

-- ---- how they are written

mutual
  -- a place: the uses at it, the cascade there, and what it holds
  pub data PlaceDraft : Type 0 where
    place : List UseDraft → CascadeDraft → Holding → PlaceDraft

  -- plain data or references, or a list, an optional or a map of what another place holds; the uses in `a_map` are those at its keys
  pub data Holding : Type 0 where
    plain : TypeUse → Holding
    list : PlaceDraft → Holding
    optional : PlaceDraft → Holding
    a_map : List UseDraft → PlaceDraft → Holding

-- the plain kinds by their names
abbrev pub plain_kinds : List (List ℕ × TypeUse)
plain_kinds =
    (codes "text", texts)
    ∷ (codes "integer", integers)
    ∷ (codes "decimal", decimals)
    ∷ (codes "boolean", booleans)
    ∷ (codes "date", dates)
    ∷ (codes "instant", instants)
    ∷ []

-- the references that the member `ref` says
abbrev pub reference_of : json.Data → Option TypeUse
reference_of j = option_map references (required as_str (codes "ref") j)

-- the members of a place
abbrev pub place_members : List (List ℕ)
place_members = codes "type" ∷ codes "constraints" ∷ codes "valid" ∷ codes "convert" ∷ []

abbrev mutual
  -- `{"type":T,"constraints":[USE],"valid":BOOL,"convert":{GROUP:GROUP}}`, only `type` is required
  pub place_of : json.Data → Option PlaceDraft
  place_of (json.object ms) =
      if has_only (codes "type" ∷ codes "constraints" ∷ codes "valid" ∷ codes "convert" ∷ []) (json.object ms)
      then map3 place (uses_of (codes "constraints") (json.object ms)) (cascade_of (json.object ms)) (type_in ms)
      else None
  place_of _ = None

  -- what the member `type` says that the place holds
  pub type_in : json.Members → Option Holding
  type_in json.no_members = None
  type_in (json.member name j ms) = match_ordering (slice_cmp nat_cmp (codes "type") name) (type_in ms) (held_of j) (type_in ms)

  -- a plain kind by its name, `{"ref":TYPE}`, `{"list":PLACE}`, `{"optional":PLACE}` or `{"map":PLACE,"keys":[USE]}`, `keys` may be missing
  pub held_of : json.Data → Option Holding
  held_of (json.string name) = option_map plain (at_name name plain_kinds)
  held_of (json.object ms) =
      if has_only (codes "ref" ∷ []) (json.object ms) then option_map plain (reference_of (json.object ms))
      else if has_only (codes "list" ∷ []) (json.object ms) then option_map list (place_in (codes "list") ms)
      else if has_only (codes "optional" ∷ []) (json.object ms) then option_map optional (place_in (codes "optional") ms)
      else if has_only (codes "map" ∷ codes "keys" ∷ []) (json.object ms) then
      map2 a_map (uses_of (codes "keys") (json.object ms)) (place_in (codes "map") ms)
      else None
  held_of _ = None

  -- the place that the member of a name is
  pub place_in : List ℕ → json.Members → Option PlaceDraft
  place_in at json.no_members = None
  place_in at (json.member name j ms) = match_ordering (slice_cmp nat_cmp at name) (place_in at ms) (place_of j) (place_in at ms)

-- ---- what stands at them and inside them

-- a use at a place in a field: the steps that lead there, the kind of what stands there, and what is used
pub record PlacedUse : Type 0 where
  pub steps : List PlaceStep
  pub kind : Kind
  pub draft : UseDraft

-- a cascade at a place in a field: the steps that lead there, the kind of what stands there, and what is written of it
pub record PlacedCascade : Type 0 where
  pub steps : List PlaceStep
  pub kind : Kind
  pub cascade : CascadeDraft

-- a use at a place where data of a kind stand
abbrev pub use_there : List PlaceStep → Kind → UseDraft → PlacedUse
use_there steps kind draft = record { steps = steps; kind = kind; draft = draft }

-- a cascade at a place where data of a kind stand
abbrev pub cascade_there : List PlaceStep → Kind → CascadeDraft → PlacedCascade
cascade_there steps kind cascade = record { steps = steps; kind = kind; cascade = cascade }

abbrev mutual
  -- the type use of what is held
  pub type_held : Holding → TypeUse
  type_held (plain type) = type
  type_held (list p) = lists (type_at p)
  type_held (optional p) = optionals (type_at p)
  type_held (a_map keys p) = maps (type_at p)

  -- the same of a place
  pub type_at : PlaceDraft → TypeUse
  type_at (place uses cascade held) = type_held held

abbrev mutual
  -- the uses at the place that these steps lead to and then those inside it, in the order of their numbers
  pub uses_at : List PlaceStep → PlaceDraft → List PlacedUse
  uses_at steps (place uses cascade held) = map (use_there steps (kind_of (type_held held))) uses ++ uses_inside steps held

  pub uses_inside : List PlaceStep → Holding → List PlacedUse
  uses_inside steps (plain type) = []
  uses_inside steps (list p) = uses_at (steps ++ element ∷ []) p
  uses_inside steps (optional p) = uses_at (steps ++ content ∷ []) p
  uses_inside steps (a_map keys p) = map (use_there (steps ++ key ∷ []) (kind_of texts)) keys ++ uses_at (steps ++ value ∷ []) p

abbrev mutual
  -- the cascade at the place that these steps lead to, and then those inside it
  pub cascades_at : List PlaceStep → PlaceDraft → List PlacedCascade
  cascades_at steps (place uses cascade held) = cascade_there steps (kind_of (type_held held)) cascade ∷ cascades_inside steps held

  pub cascades_inside : List PlaceStep → Holding → List PlacedCascade
  cascades_inside steps (plain type) = []
  cascades_inside steps (list p) = cascades_at (steps ++ element ∷ []) p
  cascades_inside steps (optional p) = cascades_at (steps ++ content ∷ []) p
  cascades_inside steps (a_map keys p) = cascades_at (steps ++ value ∷ []) p
