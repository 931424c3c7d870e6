use Rattle.std.proofs.Common.{sym, arith}
use Rattle.fv_constraint_tree.specs.TargetFits.{test_fits}
use Rattle.fv_constraint_tree.specs.Views.{entry_view}
use Rattle.fv_declare_schema.specs.PlacedView.{placed_view}
use Rattle.fv_declare_schema.specs.Places.{judged_at}
use Rattle.fv_declare_schema.proofs.Nodes.{node_there, refused, passed, all_passed}
use Rattle.fv_declare_schema.proofs.schema.placed_fits.Goals as goal

pub unreachable-requires : goal.unreachable-requires
unreachable-requires g c = node_there (placed_view c.args.placed.now).tree c.loop-number.number (omega (arith, c.size-number-end.ensures, c.loop-number-test.true)) (sym c.in_default.ensures)

pub returns-then-not-test_fits : goal.returns-then-not-test_fits
returns-then-not-test_fits g c =
    let o = placed_view c.args.placed.now in
    refused (λ n. test_fits (g.R.RuleSet.known c.args.rules.now) (judged_at o.place) n.test) o.tree c.loop-number.number (entry_view c.in-Some.node.now) (sym c.in-Some.ensures) c.if-not-test_fits.ensures c.loop-number.invariant

pub loop-number-preserved : goal.loop-number-preserved
loop-number-preserved g c =
    let o = placed_view c.args.placed.now in
    passed (λ n. test_fits (g.R.RuleSet.known c.args.rules.now) (judged_at o.place) n.test) o.tree c.loop-number.number (entry_view c.in-Some.node.now) (sym c.in-Some.ensures) c.if-not-test_fits.ensures c.loop-number.invariant

pub returns : goal.returns
returns g c =
    let o = placed_view c.args.placed.now in
    all_passed (λ n. test_fits (g.R.RuleSet.known c.args.rules.now) (judged_at o.place) n.test) o.tree c.loop-number.number (omega (arith, c.size-number-end.ensures, c.loop-number-test.false)) c.loop-number.invariant
