-- The uses of constraints at their places, in their order.
use Rattle.std.specs.Prelude.{ℕ, ◌++◌, List, map}
use Rattle.std.specs.List.{flat_map, enumerate_from}
use Rattle.fv_declare_draft.specs.Drafts.{FieldDraft, TypeDraft}
use Rattle.fv_declare_draft.specs.Places.{PlacedUse}
use Rattle.fv_declare_draft.specs.Uses.{UseDraft}
use Rattle.fv_declare_schema.specs.Places.{Place, whole, field}

-- a use at its place: the number of its type, and its place there
pub record DraftUse : Type 0 where
  pub type : ℕ
  pub place : Place
  pub draft : UseDraft

-- a use at a place in the type of a number
abbrev pub use_at : ℕ → Place → UseDraft → DraftUse
use_at type place draft = record { type = type; place = place; draft = draft }

-- a use at a place in the field of a number
abbrev pub use_in : ℕ → ℕ → PlacedUse → DraftUse
use_in type number u = use_at type (field number u.steps u.kind) u.draft

-- the uses at a field and inside it, with its number
abbrev pub field_uses : ℕ → ℕ × FieldDraft → List DraftUse
field_uses type f = map (use_in type f.0) f.1.uses

-- the uses at a type itself and then those in its fields, with its number
abbrev pub type_uses : ℕ × TypeDraft → List DraftUse
type_uses t = map (use_at t.0 whole) t.1.uses ++ flat_map (field_uses t.0) (enumerate_from 0 t.1.fields)

-- by types, in a type those at itself and then by fields, in a field as its place gives them
abbrev pub uses_in : List TypeDraft → List DraftUse
uses_in ts = flat_map type_uses (enumerate_from 0 ts)
