use Rattle.std.proofs.Common.{◌-◌}
use Rattle.fv_constraint_tree.specs.Says.{refuses}
use Rattle.fv_constraint_tree.specs.Trees.{size}
use Rattle.fv_constraint_tree.specs.Views.{subject_view}
use Rattle.fv_constraint_tree.proofs.Walking.{Walk}
use Rattle.fv_constraint_tree.proofs.reporting.violated.Given as goal

abbrev pub invariant-loop-number : goal.invariant-loop-number
invariant-loop-number g l = Walk (λ n. n.single) (refuses g.R.RuleSet.meaning l.fn.now (subject_view l.fn.subject)) l.fn.occurrence l.number l.numbers.items

abbrev pub decreases-loop-number : goal.decreases-loop-number
decreases-loop-number g l = size l.occurrence - l.number
