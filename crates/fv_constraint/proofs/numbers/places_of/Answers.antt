use Rattle.std.proofs.Common.{length, ap, arith}
use Rattle.fv_constraint.proofs.Placing.{placed_more}
use Rattle.fv_constraint.proofs.numbers.places_of.Goals as goal

pub loop-name-preserved : goal.loop-name-preserved
loop-name-preserved c =
    let long = ap length c.in-Some.ensures.steps in
    record {
      made = placed_more c.args.definitions.now.entries _ _ _ _ _ _ _ _ c.iter-name-items.ensures.ordered c.in-Some.ensures.steps c.as_str.ensures.value c.in_ok-insert.ensures.entries c.loop-name.invariant.made;
      fits = omega (arith, c.loop-name.invariant.fits, long);
    }
