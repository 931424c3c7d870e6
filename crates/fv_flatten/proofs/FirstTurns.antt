-- What is found first, seen from one element on.
use Rattle.std.proofs.Common.{◌≡◌, ℕ, ◌+◌, ◌<◌, List, length, get_or, drop, map, Option, refl, add-one, drop-cons}
use Rattle.std.specs.Option.{option_or}
use Rattle.fv_constraint.specs.Composed as composed
use Rattle.fv_constraint.specs.PlannedViews.{planned_view}
use Rattle.fv_constraint.specs.declared.planning.Planned.{Planned}
use Rattle.fv_first.proofs.Turns.{first_turn}
use Rattle.fv_first.specs.First.{first_from}
use Rattle.fv_flatten.specs.declared.placed.PlacedTree.{PlacedTree}
use Rattle.fv_graph.specs.declared.flatten.Spot.{Spot}

pub spot_turn : {P : Type 0} (f : ℕ → composed.Planned → Option P) (xs : List (Spot Planned)) (i : ℕ) (x : Spot Planned) → i < length xs → x ≡ get_or xs i x
    → first_from f i (map (λ s. planned_view s.value) (drop i xs)) ≡ option_or (f i (planned_view x.value)) (first_from f (i + 1) (map (λ s. planned_view s.value) (drop (i + 1) xs)))
spot_turn = first_turn (λ s. planned_view s.value)

pub tree_turn : {P : Type 0} (f : ℕ → PlacedTree → Option P) (xs : List PlacedTree) (i : ℕ) (x : PlacedTree) → i < length xs → x ≡ get_or xs i x
    → first_from f i (drop i xs) ≡ option_or (f i x) (first_from f (i + 1) (drop (i + 1) xs))
tree_turn f xs i x h is = rw (add-one, drop-cons xs i x h, ← is) refl
