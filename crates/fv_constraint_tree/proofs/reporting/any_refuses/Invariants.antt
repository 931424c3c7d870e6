use Rattle.std.proofs.Common.{◌≡◌, drop, true}
use Rattle.std.specs.List.{list_all, list_any}
use Rattle.fv_constraint_tree.specs.Fits.{test_fits}
use Rattle.fv_constraint_tree.specs.Says.{refuses}
use Rattle.fv_constraint_tree.specs.Views.{node_view, test_view, subject_view}
use Rattle.fv_constraint_tree.proofs.reporting.any_refuses.Given as goal

abbrev pub invariant-loop-node : goal.invariant-loop-node
invariant-loop-node g l = record {
  fit : list_all (λ n. test_fits (g.R.RuleSet.known l.rules.rules) (test_view n.test)) (drop l.node-index l.nodes) ≡ true;
  left :
      list_any (λ n. refuses g.R.RuleSet.meaning l.now (subject_view l.subject) (node_view n)) (drop l.node-index l.nodes)
      ≡ list_any (λ n. refuses g.R.RuleSet.meaning l.now (subject_view l.subject) (node_view n)) l.nodes;
}
