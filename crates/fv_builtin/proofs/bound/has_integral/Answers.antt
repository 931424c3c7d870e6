use Rattle.std.proofs.Common.{arith}
use mir.Syntax.{w128}
use Rattle.std.proofs.lemmas.Int.{to_z-of_z}
use Rattle.fv_builtin.proofs.DigitCounts.{few, integral_all}
use Rattle.fv_builtin.proofs.bound.has_integral.Goals as goal

pub returns-then-count-ge30 : goal.returns-then-count-ge30
returns-then-count-ge30 c =
    let is = rw (to_z-of_z w128 c.args.number c.ranges.number) at c.unsigned_abs-whole.ensures.value in
    integral_all c.args.count c.args.number c.if-count-ge30.true (rw is at c.unsigned_abs-whole.ensures.bound)

pub pow-requires : goal.pow-requires
pow-requires c =
    let small = few c.args.count 29 (omega arith) in
    omega arith
