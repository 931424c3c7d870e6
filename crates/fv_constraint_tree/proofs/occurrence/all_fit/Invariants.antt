use Rattle.std.proofs.Common.{◌≡◌, drop}
use Rattle.std.specs.List.{list_all}
use Rattle.fv_constraint_tree.specs.Fits.{test_fits}
use Rattle.fv_constraint_tree.specs.Views.{test_view}
use Rattle.fv_constraint_tree.proofs.occurrence.all_fit.Given as goal

abbrev pub invariant-loop-node : goal.invariant-loop-node
invariant-loop-node g l =
    list_all (λ n. test_fits (g.R.RuleSet.known l.rules) (test_view n.test)) (drop l.node-index l.nodes)
    ≡ list_all (λ n. test_fits (g.R.RuleSet.known l.rules) (test_view n.test)) l.nodes
