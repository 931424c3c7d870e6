-- The steps of the uses and cascades that a draft has lead in what their fields hold.
use Rattle.std.proofs.Common.{◌≡◌, ℕ, List, [], ◌∷◌, ◌++◌, map, Bool, true, false, Option, Some, None, option_map, option_and_then, if◌then◌else◌, codes, refl, sym, ap, ◌∙◌, append_assoc, append-nil}
use Rattle.std.specs.List.{AllByRecursion}
use Rattle.serde_json.specs.Data as json
use Rattle.serde_json.specs.Find.{get}
use Rattle.fv_datum.specs.Forms.{map3, maybe, each_member, required, map5}
use Rattle.fv_datum.specs.declared.kind.Kind.{Kind}
use Rattle.fv_datum.specs.Members.{pairs, has_only, each_some}
use Rattle.fv_declare_definition.specs.Definitions.{Definitions}
use Rattle.fv_datum.specs.NameLists.{names_in}
use Rattle.fv_declare_draft.specs.Cascades.{CascadeDraft}
use Rattle.fv_declare_draft.specs.Drafts.{FieldDraft, TypeDraft, FormDraft, Drafted, field_of, type_of, draft_of}
use Rattle.fv_declare_draft.specs.Places.{PlaceDraft, Holding, PlacedUse, PlacedCascade, place, plain, list, optional, a_map, place_of, use_there, cascade_there, type_at, type_held, uses_at, uses_inside, cascades_at, cascades_inside}
use Rattle.fv_declare_draft.specs.Uses.{UseDraft, uses_of}
use Rattle.fv_extract.specs.Places.{PlaceStep, element, key, value, content}
use Rattle.fv_declare_schema.specs.Groups.{Groups}
use Rattle.fv_bundle.specs.Types.{TypeUse, texts, lists, maps, optionals, kind_of}
use Rattle.fv_declare_judging.specs.Judging.{IsLed, AreLed}
use Rattle.fv_declare_schema.specs.Ordered.{held_after, held_inside}
use Rattle.fv_datum.proofs.Lists.{each_of}
use Rattle.fv_declare_judging.proofs.Alls.{all_append, all_mapped}
use Rattle.fv_declare_judging.proofs.Depths.{place_deep}

-- ---- one place

-- behind these steps come others, which lead in what is held to data of the kind
abbrev Leads : List PlaceStep → TypeUse → List PlaceStep → Kind → Type 0
Leads steps type to kind = (inner : List PlaceStep) × (to ≡ steps ++ inner) × (option_map kind_of (held_inside inner type) ≡ Some kind)

abbrev UseLeads : List PlaceStep → TypeUse → PlacedUse → Type 0
UseLeads steps type u = Leads steps type u.steps u.kind

abbrev CascadeLeads : List PlaceStep → TypeUse → PlacedCascade → Type 0
CascadeLeads steps type c = Leads steps type c.steps c.kind

abbrev AllLead : List PlaceStep → TypeUse → List PlacedUse → List PlacedCascade → Type 0
AllLead steps type us cs = AllByRecursion (UseLeads steps type) us × AllByRecursion (CascadeLeads steps type) cs

-- what is held one step inside
further : (steps : List PlaceStep) (step : PlaceStep) (outer type : TypeUse) (to : List PlaceStep) (kind : Kind) → held_after step outer ≡ Some type → Leads (steps ++ step ∷ []) type to kind → Leads steps outer to kind
further steps step outer type to kind is h = (step ∷ h.0, h.1 ∙ append_assoc steps (step ∷ []) h.0, ap (λ held. option_map kind_of (option_and_then (held_inside h.0) held)) is ∙ h.2)

all_further : (steps : List PlaceStep) (step : PlaceStep) (outer type : TypeUse) (us : List PlacedUse) (cs : List PlacedCascade) → held_after step outer ≡ Some type → AllLead (steps ++ step ∷ []) type us cs → AllLead steps outer us cs
all_further steps step outer type us cs is h = (
  each_of (UseLeads (steps ++ step ∷ []) type) (UseLeads steps outer) us (λ u k. further steps step outer type u.steps u.kind is k) h.0,
  each_of (CascadeLeads (steps ++ step ∷ []) type) (CascadeLeads steps outer) cs (λ c k. further steps step outer type c.steps c.kind is k) h.1,
)

there : (steps : List PlaceStep) (type : TypeUse) (us : List UseDraft) → AllByRecursion (UseLeads steps type) (map (use_there steps (kind_of type)) us)
there steps type us = all_mapped (UseLeads steps type) (use_there steps (kind_of type)) us (λ u. ([], sym (append-nil steps), refl))

-- the uses at a place and the cascade there, before those inside it
before : (steps : List PlaceStep) (type : TypeUse) (uses : List UseDraft) (cascade : CascadeDraft) (us : List PlacedUse) (cs : List PlacedCascade) → AllLead steps type us cs
    → AllLead steps type (map (use_there steps (kind_of type)) uses ++ us) (cascade_there steps (kind_of type) cascade ∷ cs)
before steps type uses cascade us cs h = (all_append (UseLeads steps type) (map (use_there steps (kind_of type)) uses) us (there steps type uses) h.0, (([], sym (append-nil steps), refl), h.1))

mutual
  place_led : (steps : List PlaceStep) (p : PlaceDraft) → AllLead steps (type_at p) (uses_at steps p) (cascades_at steps p)
  place_led steps (place uses cascade held) = before steps (type_held held) uses cascade _ _ (inside_led steps held)

  inside_led : (steps : List PlaceStep) (held : Holding) → AllLead steps (type_held held) (uses_inside steps held) (cascades_inside steps held)
  inside_led steps (plain type) = (tt, tt)
  inside_led steps (list p) = all_further steps element (lists (type_at p)) (type_at p) _ _ refl (place_led (steps ++ element ∷ []) p)
  inside_led steps (optional p) = all_further steps content (optionals (type_at p)) (type_at p) _ _ refl (place_led (steps ++ content ∷ []) p)
  inside_led steps (a_map keys p) =
      let type = maps (type_at p) in
      let inner = all_further steps value type (type_at p) _ _ refl (place_led (steps ++ value ∷ []) p) in
      let at_keys = each_of (UseLeads (steps ++ key ∷ []) texts) (UseLeads steps type) _ (λ u k. further steps key type texts u.steps u.kind refl k) (there (steps ++ key ∷ []) texts keys) in
      (all_append (UseLeads steps type) (map (use_there (steps ++ key ∷ []) (kind_of texts)) keys) _ at_keys inner.0, inner.1)

-- ---- fields, types and drafts

-- a value, if it is there, has what is said
abbrev IfThere : {X : Type 0} → (X → Type 0) → Option X → Type 0
IfThere P None = Unit {0}
IfThere P (Some x) = P x

field_led : (name : List ℕ) (place : Option PlaceDraft) → IfThere IsLed (option_map (λ p. record { name = name; type = type_at p; uses = uses_at [] p; cascades = cascades_at [] p }) place)
field_led name None = tt
field_led name (Some p) =
    let led = place_led [] p in
    let held = type_at p in (
      each_of (UseLeads [] held) (λ u. option_map kind_of (held_inside u.steps held) ≡ Some u.kind) (uses_at [] p) (λ u k. ap (λ steps. option_map kind_of (held_inside steps held)) k.1 ∙ k.2) led.0,
      each_of (CascadeLeads [] held) (λ c. option_map kind_of (held_inside c.steps held) ≡ Some c.kind) (cascades_at [] p) (λ c k. ap (λ steps. option_map kind_of (held_inside steps held)) k.1 ∙ k.2) led.1,
      place_deep p,
    )

both : {Y : Type 0} (P : Y → Type 0) (y : Option Y) (ys : Option (List Y)) → IfThere P y → IfThere (AllByRecursion P) ys → IfThere (AllByRecursion P) (option_and_then (λ x. option_map (λ xs. x ∷ xs) ys) y)
both P None ys h k = tt
both P (Some y) None h k = tt
both P (Some y) (Some ys) h k = (h, k)

-- each, where all are there
each_there : {X Y : Type 0} (P : Y → Type 0) (f : X → Option Y) (xs : List X) → ((x : X) → IfThere P (f x)) → IfThere (AllByRecursion P) (each_some f xs)
each_there P f [] h = tt
each_there P f (x ∷ xs) h = both P (f x) (each_some f xs) (h x) (each_there P f xs h)

-- each member, where all are of a form
members_there : {X : Type 0} (P : X → Type 0) (f : List ℕ × json.Data → Option X) (j : Option json.Data) → ((m : List ℕ × json.Data) → IfThere P (f m)) → IfThere (AllByRecursion P) (option_and_then (each_member f) j)
members_there P f None h = tt
members_there P f (Some json.null) h = tt
members_there P f (Some (json.boolean b)) h = tt
members_there P f (Some (json.number n)) h = tt
members_there P f (Some (json.string s)) h = tt
members_there P f (Some (json.array js)) h = tt
members_there P f (Some (json.object ms)) h = each_there P f (pairs ms) h

abbrev AreFieldsLed : TypeDraft → Type 0
AreFieldsLed t = AllByRecursion IsLed t.fields

drafted_led : (name : List ℕ) (b : Bool) (fields : Option (List FieldDraft)) (uses : Option (List UseDraft)) (sequence : Option (Option (List (List ℕ)))) → IfThere (AllByRecursion IsLed) fields
    → IfThere AreFieldsLed (if b then map3 (λ fs us ns. record { name = name; fields = fs; uses = us; sequence = ns }) fields uses sequence else None)
drafted_led name false fields uses sequence h = tt
drafted_led name true None uses sequence h = tt
drafted_led name true (Some fs) None sequence h = tt
drafted_led name true (Some fs) (Some us) None h = tt
drafted_led name true (Some fs) (Some us) (Some ns) h = h

member_led : (m : List ℕ × json.Data) → IfThere AreFieldsLed (type_of m)
member_led m =
    drafted_led m.0 (has_only (codes "fields" ∷ codes "constraints" ∷ codes "sequence" ∷ []) m.1) (required (each_member field_of) (codes "fields") m.1) (uses_of (codes "constraints") m.1) (maybe names_in (codes "sequence") m.1)
    (members_there IsLed field_of (get (codes "fields") m.1) (λ f. field_led f.0 (place_of f.1)))

all_led : (b : Bool) (types : Option (List TypeDraft)) (forms : Option (List FormDraft)) (groups : Option Groups) (definitions : Option Definitions) (messages : Option (List (List ℕ × List ℕ))) (d : Drafted) → IfThere (AllByRecursion AreFieldsLed) types
    → (if b then map5 (λ ts fs gs ds ms. record { types = ts; forms = fs; definitions = ds; groups = gs; messages = ms }) types forms groups definitions messages else None) ≡ Some d → AreLed d
all_led false types forms groups definitions messages d h is = cc
all_led true None forms groups definitions messages d h is = cc
all_led true (Some ts) None groups definitions messages d h is = cc
all_led true (Some ts) (Some fs) None definitions messages d h is = cc
all_led true (Some ts) (Some fs) (Some gs) None messages d h is = cc
all_led true (Some ts) (Some fs) (Some gs) (Some ds) None d h is = cc
all_led true (Some ts) (Some fs) (Some gs) (Some ds) (Some ms) d h is = let same : ts ≡ d.types = cc in rw (← same) h

-- those of the draft that a JSON value spells
pub draft_led : (j : json.Data) (d : Drafted) → draft_of j ≡ Some d → AreLed d
draft_led j d is = all_led _ (required (each_member type_of) (codes "types") j) _ _ _ _ d (members_there AreFieldsLed type_of (get (codes "types") j) member_led) is
