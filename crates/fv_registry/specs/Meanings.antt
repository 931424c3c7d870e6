-- What validators answer.
use Rattle.std.specs.Prelude.{◌≡◌, ℕ, Bool, List, Option, Some, None, if◌then◌else◌}
use Rattle.std.specs.List.{All}
use Rattle.fv_datum.specs.Attributes.{Attributes}
use Rattle.fv_datum.specs.Data.{Data}
use Rattle.fv_datum.specs.View.{view}
use Rattle.fv_datum.specs.declared.attrs.Attrs.{Attrs}
use Rattle.fv_datum.specs.declared.datum.Datum.{Datum}
use Rattle.fv_bundle.specs.Bundles.{Thing}
use Rattle.fv_bundle.specs.Views.{object_view}
use Rattle.fv_bundle.specs.declared.bundle.Object.{Object}
use Rattle.fv_registry.specs.Rules.{Known, knows_field, knows_object}
use denote.Ref.{Bor}

-- what each rule decides, of data and of objects, with the attributes in effect
pub record Meanings : Type 0 where
  pub decides : ℕ → Data → Attributes → Bool
  pub decides_object : ℕ → Thing → Attributes → Bool

-- the answer for a rule of data: none where it isn't registered for data
abbrev pub answered : Meanings → Known → ℕ → Data → Attributes → Option Bool
answered m k rule d attrs = if knows_field rule k then Some (m.decides rule d attrs) else None

-- the answer for a rule of objects: none where it isn't registered for objects
abbrev pub object_answered : Meanings → Known → ℕ → Thing → Attributes → Option Bool
object_answered m k rule o attrs = if knows_object rule k then Some (m.decides_object rule o attrs) else None

-- every answer that a call on a datum may give is what is decided of it
abbrev pub FieldAnswers : (Bor Datum → Bor Attrs → Bool → Type 0) → (Data → Attributes → Bool) → Type 0
FieldAnswers post decides = (x : Bor Datum) (y : Bor Attrs) (r : Bool) → post x y r → r ≡ decides (view x.now) y.now

-- every answer that a call on an object may give is what is decided of it
abbrev pub ObjectAnswers : (Bor Object → Bor Attrs → Bool → Type 0) → (Thing → Attributes → Bool) → Type 0
ObjectAnswers post decides = (x : Bor Object) (y : Bor Attrs) (r : Bool) → post x y r → r ≡ decides (object_view x.now) y.now

-- each of a list of validators of data answers what its rule decides
abbrev pub FieldsMean : {V : Type 0} → (V → ℕ) → (V → Bor Datum → Bor Attrs → Bool → Type 0) → (ℕ → Data → Attributes → Bool) → List V → Type 0
FieldsMean rule post decides = All (λ v. FieldAnswers (post v) (decides (rule v)))

-- each of a list of validators of objects answers what its rule decides
abbrev pub ObjectsMean : {V : Type 0} → (V → ℕ) → (V → Bor Object → Bor Attrs → Bool → Type 0) → (ℕ → Thing → Attributes → Bool) → List V → Type 0
ObjectsMean rule post decides = All (λ v. ObjectAnswers (post v) (decides (rule v)))
