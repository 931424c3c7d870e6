use Rattle.std.proofs.Common.{◌≡◌, map, drop, if◌then◌else◌, Some, None}
use Rattle.fv_first.specs.First.{first_from, first_where}
use Rattle.fv_flatten.specs.Placed.{planned_in}
use Rattle.fv_constraint.specs.PlannedViews.{planned_view}
use Rattle.fv_flatten.specs.Read.{refuses_at}
use Rattle.fv_constraint_tree.specs.TargetViews.{target_view}
use Rattle.fv_flatten.proofs.placed.misplaced_node.Given as goal

abbrev pub invariant-loop-number : goal.invariant-loop-number
invariant-loop-number g l =
    first_from (λ n p. if refuses_at (g.R.RuleSet.known l.rules) (target_view l.tree.place) p then Some n else None) l.number (map (λ s. planned_view s.value) (drop l.number l.tree.spots.items))
    ≡ first_where (refuses_at (g.R.RuleSet.known l.rules) (target_view l.tree.place)) (planned_in l.tree)
