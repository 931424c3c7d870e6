-- Declarations by their names, before any of them is judged.
use Rattle.std.specs.Prelude.{ℕ, List, [], ◌∷◌, Option, option_map, codes}
use Rattle.serde_json.specs.Data as json
use Rattle.serde_json.specs.Find.{as_str}
use Rattle.fv_datum.specs.Forms.{only, required, optional, maybe, each_member, map2, map3, map5}
use Rattle.fv_declare_definition.specs.Definitions.{Definitions}
use Rattle.fv_declare_definition.specs.Written.{definition_of}
use Rattle.fv_datum.specs.NameLists.{names_in, names_of}
use Rattle.fv_declare_draft.specs.Groups.{group_of}
use Rattle.fv_declare_draft.specs.Messages.{message_draft_of}
use Rattle.fv_declare_draft.specs.Places.{PlacedUse, PlacedCascade, place_of, type_at, uses_at, cascades_at}
use Rattle.fv_declare_draft.specs.Uses.{UseDraft, uses_of}
use Rattle.fv_declare_schema.specs.Groups.{Groups}
use Rattle.fv_bundle.specs.Types.{TypeUse}

-- a field: its name, what it holds, the uses at it and inside it, and the cascades at it and at each place inside it
pub record FieldDraft : Type 0 where
  pub name : List ℕ
  pub type : TypeUse
  pub uses : List PlacedUse
  pub cascades : List PlacedCascade

-- a type, with the uses at the type itself, and the members of the sequence that redefines `Default` for it, if it has one
pub record TypeDraft : Type 0 where
  pub name : List ℕ
  pub fields : List FieldDraft
  pub uses : List UseDraft
  pub sequence : Option (List (List ℕ))

-- a form: its name, that of its root's type, and those of its groups. Where it names no group, `Default` is meant
pub record FormDraft : Type 0 where
  pub name : List ℕ
  pub root : List ℕ
  pub groups : List (List ℕ)

-- what declarations have: types, forms, declared constraints, declared groups, and messages by their keys
pub record Drafted : Type 0 where
  pub types : List TypeDraft
  pub forms : List FormDraft
  pub definitions : Definitions
  pub groups : Groups
  pub messages : List (List ℕ × List ℕ)

-- a field with its place
abbrev pub field_of : List ℕ × json.Data → Option FieldDraft
field_of m =
    option_map (λ place. record { name = m.0; type = type_at place; uses = uses_at [] place; cascades = cascades_at [] place }) (place_of m.1)

-- `{"fields":{..},"constraints":[..],"sequence":[GROUP]}`, `constraints` and `sequence` may be missing
abbrev pub type_of : List ℕ × json.Data → Option TypeDraft
type_of m = only (codes "fields" ∷ codes "constraints" ∷ codes "sequence" ∷ []) (λ j.
    map3 (λ fields uses sequence. record { name = m.0; fields = fields; uses = uses; sequence = sequence })
    (required (each_member field_of) (codes "fields") j) (uses_of (codes "constraints") j) (maybe names_in (codes "sequence") j)) m.1

-- `{"root":TYPE,"groups":[GROUP]}`, `groups` may be missing
abbrev pub form_of : List ℕ × json.Data → Option FormDraft
form_of m = only (codes "root" ∷ codes "groups" ∷ []) (λ j.
    map2 (λ root groups. record { name = m.0; root = root; groups = groups })
    (required as_str (codes "root") j) (names_of (codes "groups") j)) m.1

-- `{"types":{..},"forms":{..},"groups":{..},"constraints":{..},"messages":{..}}`, only `types` and `forms` are required
abbrev pub draft_of : json.Data → Option Drafted
draft_of = only (codes "types" ∷ codes "forms" ∷ codes "groups" ∷ codes "constraints" ∷ codes "messages" ∷ []) (λ j.
    map5 (λ types forms groups definitions messages.
    record { types = types; forms = forms; definitions = definitions; groups = groups; messages = messages })
    (required (each_member type_of) (codes "types") j) (required (each_member form_of) (codes "forms") j)
    (optional [] (each_member group_of) (codes "groups") j) (optional [] (each_member definition_of) (codes "constraints") j)
    (optional [] (each_member message_draft_of) (codes "messages") j))
