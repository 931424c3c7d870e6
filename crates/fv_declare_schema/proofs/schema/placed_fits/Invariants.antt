use Rattle.std.proofs.Common.{◌≡◌, drop}
use Rattle.std.specs.List.{list_all}
use Rattle.fv_constraint_tree.specs.TargetFits.{test_fits}
use Rattle.fv_constraint_tree.specs.Preorder.{nodes}
use Rattle.fv_declare_schema.specs.PlacedView.{placed_view}
use Rattle.fv_declare_schema.specs.Places.{judged_at}
use Rattle.fv_declare_schema.proofs.schema.placed_fits.Given as goal

abbrev pub invariant-loop-number : goal.invariant-loop-number
invariant-loop-number g l =
    list_all (λ n. test_fits (g.R.RuleSet.known l.rules) (judged_at (placed_view l.placed).place) n.test) (drop l.number (nodes (placed_view l.placed).tree))
    ≡ list_all (λ n. test_fits (g.R.RuleSet.known l.rules) (judged_at (placed_view l.placed).place) n.test) (nodes (placed_view l.placed).tree)
