-- The first fault of a draft, by parts.
use Rattle.std.proofs.Common.{◌≡◌, List, [], ◌∷◌, ◌++◌, cond, Bool, true, false, Option, Some, None, ℕ, refl, ◌∙◌}
use Rattle.fv_datum.specs.Outcomes.{first}
use Rattle.fv_model.specs.Draft.{BundleDraft}
use Rattle.fv_bundle.specs.Types.{Declared}
use Rattle.fv_model.specs.declared.fault.BundleFault.{BundleFault}
use Rattle.fv_model.specs.declared.fault.BundleFault.TheVariants.{UnknownField, WrongKind}
use Rattle.fv_model.proofs.Conditions.{unknown_field, wrong_kind, draft_fault, name_conditions, late_conditions}

not_here : {E : Type 0} (b : Bool) (e : E) (o p q : Option E) → (o ≡ None → p ≡ q) → cond b (Some e) o ≡ None → cond b (Some e) p ≡ q
not_here true e o p q more is = cc
not_here false e o p q more is = more is

first_past : {E : Type 0} (cs ds : List (Bool × E)) → first cs ≡ None → first (cs ++ ds) ≡ first ds
first_past [] ds is = refl
first_past (c ∷ cs) ds is = not_here c.0 c.1 (first cs) (first (cs ++ ds)) (first ds) (first_past cs ds) is

abbrev data_conditions : Declared → Option (List ℕ) → BundleDraft → List (Bool × BundleFault)
data_conditions ts asked d = (unknown_field ts d.objects, UnknownField) ∷ (wrong_kind ts d.objects, WrongKind) ∷ late_conditions ts asked d

past_names : (ts : Declared) (asked : Option (List ℕ)) (d : BundleDraft) → first (name_conditions ts d) ≡ None → draft_fault ts asked d ≡ first (data_conditions ts asked d)
past_names ts asked d none = first_past (name_conditions ts d) (data_conditions ts asked d) none

-- after the names and the undeclared fields, a datum of another kind is the first fault
pub by_kind : (ts : Declared) (asked : Option (List ℕ)) (d : BundleDraft) → first (name_conditions ts d) ≡ None → unknown_field ts d.objects ≡ false → wrong_kind ts d.objects ≡ true → draft_fault ts asked d ≡ Some WrongKind
by_kind ts asked d none declared is = past_names ts asked d none ∙ rw (declared, is) refl

-- and after that what else there is
pub by_rest : (ts : Declared) (asked : Option (List ℕ)) (d : BundleDraft) → first (name_conditions ts d) ≡ None → unknown_field ts d.objects ≡ false → wrong_kind ts d.objects ≡ false → draft_fault ts asked d ≡ first (late_conditions ts asked d)
by_rest ts asked d none declared fits = past_names ts asked d none ∙ rw (declared, fits) refl
