use Rattle.std.proofs.Common.{arith}
use Rattle.fv_bundle.specs.TypesView.{types_view}
use Rattle.fv_widening.proofs.Turns.{after_turn, numbered_turn}
use Rattle.fv_widening.proofs.narrowing.add_types.Goals as goal

pub loop-index-preserved : goal.loop-index-preserved
loop-index-preserved c =
    after_turn _ _ _ _ _ _ c.loop-index.invariant
    (numbered_turn (types_view c.args.old.now) (types_view c.args.new.now) c.loop-index.index (grind (arith, c.loop-index-test.true, c.count-index-end.ensures)))
    c.in_ok-add_numbered.ensures
