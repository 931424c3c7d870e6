-- The first constraint whose pattern isn't built.
use Rattle.std.proofs.Common.{◌≡◌, ℕ, zero, suc, ◌+◌, ◌<◌, List, [], ◌∷◌, length, get_or, take, drop, map, Option, Some, None, Err, inl, inr, refl, subst, add-one, drop-cons, arith}
use Rattle.std.specs.List.{AllZip}
use Rattle.fv_builtin.specs.declared.fault.BuiltinFault.TheVariants.{BadPattern}
use Rattle.fv_flatten.specs.Placed.{planned_in}
use Rattle.fv_constraint.specs.PlannedViews.{planned_view, planned_entry}
use Rattle.fv_flatten.specs.Read.{IsEntry, IsReadAs}
use Rattle.fv_flatten.specs.Whereabouts.{IsUnbuiltAt, IsUnbuiltIn}
use Rattle.fv_constraint.specs.declared.at.ConstraintAt.{ConstraintAt}
use Rattle.fv_flatten.specs.declared.placed.PlacedTree.{PlacedTree}
use Rattle.fv_constraint.specs.declared.planning.Planned.{Planned}
use Rattle.fv_constraint_tree.specs.Nodes.{Node}
use Rattle.fv_constraint_tree.specs.TargetViews.{target_view}
use Rattle.fv_constraint_tree.specs.Targets.{Target}
use Rattle.fv_first.specs.First.{IsFirstFrom}
use Rattle.fv_graph.specs.declared.flatten.Spot.{Spot}

-- where all are read, none is found
pub all_built : (place : Target) (n : ℕ) (spots : List (Spot Planned)) (es : List (Node × ℕ)) → AllZip (IsEntry place) (map planned_entry spots) es
    → IsFirstFrom (IsUnbuiltAt place) n (map (λ s. planned_view s.value) spots) None
all_built place n [] es all = refl
all_built place n (s ∷ spots) [] all = absurd all
all_built place n (s ∷ spots) (e ∷ es) all = inr ((e.0, all.0.0), all_built place (suc n) spots es all.1)

-- where those before one are read, it is found
pub first_unbuilt : (place : Target) (n k : ℕ) (spots : List (Spot Planned)) (i : ℕ) (x : Spot Planned) (es : List (Node × ℕ)) → k ≡ n + i → i < length spots → x ≡ get_or spots i x
    → AllZip (IsEntry place) (map planned_entry (take i spots)) es → IsReadAs place (planned_view x.value) (Err BadPattern)
    → IsFirstFrom (IsUnbuiltAt place) n (map (λ s. planned_view s.value) spots) (Some k)
first_unbuilt place n k [] i x es number h is all bad = absurd (omega arith)
first_unbuilt place n k (s ∷ spots) zero x es number h is all bad =
    inl (k, refl, (omega (arith, number), subst (λ (t : Spot Planned). IsReadAs place (planned_view t.value) (Err BadPattern)) is bad))
first_unbuilt place n k (s ∷ spots) (suc i) x [] number h is all bad = absurd all
first_unbuilt place n k (s ∷ spots) (suc i) x (e ∷ es) number h is all bad =
    inr ((e.0, all.0.0), first_unbuilt place (suc n) k spots i x es (omega (arith, number)) (omega arith) is all.1 bad)

abbrev pub IsUnbuiltTree : ℕ → PlacedTree → Option ConstraintAt → Type 0
IsUnbuiltTree n p = IsUnbuiltIn (target_view p.place) (planned_in p) n

-- one placed tree further on, where nothing is found in this one
pub past_tree : (ps : List PlacedTree) (i : ℕ) (p : PlacedTree) → i < length ps → p ≡ get_or ps i p → IsUnbuiltTree i p None
    → (found : Option ConstraintAt) → IsFirstFrom IsUnbuiltTree (i + 1) (drop (i + 1) ps) found → IsFirstFrom IsUnbuiltTree i (drop i ps) found
past_tree ps i p h is none found rest = let more = rw add-one at rest in rw (drop-cons ps i p h, ← is) (inr (none, more))

-- what is found in this one
pub this_tree : (ps : List PlacedTree) (i : ℕ) (p : PlacedTree) → i < length ps → p ≡ get_or ps i p → (place : ConstraintAt) → IsUnbuiltTree i p (Some place) → IsFirstFrom IsUnbuiltTree i (drop i ps) (Some place)
this_tree ps i p h is place found = rw (drop-cons ps i p h, ← is) (inl (place, refl, found))
