-- Whether some element passes a test, seen from an element on.
use Rattle.std.proofs.Common.{◌≡◌, ℕ, ◌+◌, ◌<◌, List, ◌∷◌, length, get_or, drop, map, Bool, ◌||◌, refl, sym, subst, add-one, drop-cons}
use Rattle.std.specs.List.{list_any, AllByRecursion}
use Rattle.fv_model.specs.Draft as spec
use Rattle.fv_model.specs.Views.{part_view}
use Rattle.fv_model.specs.declared.parts.Part.{Part}
use Rattle.fv_datum.proofs.Lists.{any_turn}

pub part_turn : (test : spec.ObjectDraft → Bool) (ps : List Part) (i : ℕ) (p : Part) → i < length ps → p ≡ get_or ps i p
    → list_any test (map part_view (drop i ps)) ≡ (test (part_view p) || list_any test (map part_view (drop (i + 1) ps)))
part_turn = any_turn part_view

-- what holds of an element and of those after it
pub each_turn : (P : spec.ObjectDraft → Type 0) (ps : List Part) (i : ℕ) (p : Part) → i < length ps → p ≡ get_or ps i p → P (part_view p) → AllByRecursion P (map part_view (drop (i + 1) ps)) → AllByRecursion P (map part_view (drop i ps))
each_turn P ps i p h is here rest =
    let drops : map part_view (drop i ps) ≡ part_view p ∷ map part_view (drop (i + 1) ps) = rw (add-one, drop-cons ps i p h, ← is) refl in
    subst (λ (qs : List spec.ObjectDraft). AllByRecursion P qs) (sym drops) (here, rest)
