use Rattle.std.proofs.Common.{arith}
use Rattle.fv_datum.proofs.DigitLemmas.{whole_small}
use Rattle.fv_datum.proofs.decimal.whole_units.Goals as goal

pub returns-clause-small : goal.returns-clause-small
returns-clause-small c =
    let small = whole_small c.args.bytes.now c.requires in
    let is = c.digits_value.ensures.value in
    omega arith
