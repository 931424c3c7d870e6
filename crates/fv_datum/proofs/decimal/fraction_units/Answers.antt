use Rattle.fv_datum.proofs.DigitLemmas.{part_small}
use Rattle.fv_datum.proofs.decimal.fraction_units.Goals as goal

pub returns-in-Some-clause-small : goal.returns-in-Some-clause-small
returns-in-Some-clause-small c =
    let small = part_small c.in-Some.bytes.now (rw c.in-Some.is at c.requires) in
    rw (c.digits_value.ensures.value, c.pow.ensures) small
