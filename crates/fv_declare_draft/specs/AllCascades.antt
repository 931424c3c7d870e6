-- The cascades at their places, in their order.
use Rattle.std.specs.Prelude.{ℕ, List, map}
use Rattle.std.specs.List.{flat_map, enumerate_from}
use Rattle.fv_declare_draft.specs.Drafts.{FieldDraft, TypeDraft}
use Rattle.fv_declare_draft.specs.Places.{PlacedCascade}

-- a cascade at its place: the number of its type, that of its field there, and its place in the field with what is written of it
pub record Cascade : Type 0 where
  pub type : ℕ
  pub field : ℕ
  pub placed : PlacedCascade

-- a cascade in the field of a number, in the type of a number
abbrev pub cascade_in : ℕ → ℕ → PlacedCascade → Cascade
cascade_in type number c = record { type = type; field = number; placed = c }

-- the cascades at a field and inside it, with its number
abbrev pub field_cascades : ℕ → ℕ × FieldDraft → List Cascade
field_cascades type f = map (cascade_in type f.0) f.1.cascades

-- the cascades in a type's fields, with its number
abbrev pub type_cascades : ℕ × TypeDraft → List Cascade
type_cascades t = flat_map (field_cascades t.0) (enumerate_from 0 t.1.fields)

-- by types, in a type by fields, in a field from the outermost place inwards
abbrev pub cascades_in : List TypeDraft → List Cascade
cascades_in ts = flat_map type_cascades (enumerate_from 0 ts)
