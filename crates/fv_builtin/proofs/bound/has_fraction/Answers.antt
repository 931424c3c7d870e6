use mir.Syntax.{w128}
use Rattle.std.proofs.lemmas.Int.{to_z-of_z}
use Rattle.fv_builtin.proofs.DigitCounts.{fraction_all, fraction_same}
use Rattle.fv_builtin.proofs.bound.has_fraction.Goals as goal

pub returns-then-count-ge9 : goal.returns-then-count-ge9
returns-then-count-ge9 c = fraction_all c.args.count c.args.number c.if-count-ge9.true

pub returns : goal.returns
returns c =
    let is = rw (to_z-of_z w128 c.args.number c.ranges.number) at c.unsigned_abs-part.ensures.value in
    rw (is, c.pow.ensures) (fraction_same c.args.count c.args.number)
