use Rattle.std.proofs.Common.{◌≡◌, drop, option_map}
use Rattle.fv_first.specs.First.{first_from, first_where}
use Rattle.fv_flatten.specs.Placed.{planned_in, misplaced_in}
use Rattle.fv_flatten.specs.Read.{refuses_at}
use Rattle.fv_constraint.specs.declared.at.ConstraintAt.TheVariants as at
use Rattle.fv_constraint_tree.specs.TargetViews.{target_view}
use Rattle.fv_flatten.proofs.placed.misplaced_in.Given as goal

abbrev pub invariant-loop-number : goal.invariant-loop-number
invariant-loop-number g l =
    first_from (λ n p. option_map (at.Node n) (first_where (refuses_at (g.R.RuleSet.known l.rules) (target_view p.place)) (planned_in p))) l.number (drop l.number l.trees)
    ≡ misplaced_in (g.R.RuleSet.known l.rules) l.trees
