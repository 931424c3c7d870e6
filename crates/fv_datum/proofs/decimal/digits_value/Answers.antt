use Rattle.std.proofs.Common.{arith}
use Rattle.std.proofs.lemmas.List.{take_all}
use Rattle.fv_datum.proofs.DigitLemmas.{step, digits_small}
use Rattle.fv_datum.proofs.decimal.digits_value.Goals as goal

pub overflow_mul-value : goal.overflow_mul-value
overflow_mul-value c =
    let s = step c.args.bytes.now c.loop-b.b-index c.requires.digits c.requires.few c.loop-b-test.true in
    let is = c.loop-b.invariant in
    record { fits = omega arith }

pub overflow_add-value : goal.overflow_add-value
overflow_add-value c =
    let s = step c.args.bytes.now c.loop-b.b-index c.requires.digits c.requires.few c.loop-b-test.true in
    let is = c.loop-b.invariant in
    omega arith

pub loop-b-preserved : goal.loop-b-preserved
loop-b-preserved c =
    let s = step c.args.bytes.now c.loop-b.b-index c.requires.digits c.requires.few c.loop-b-test.true in
    let is = c.loop-b.invariant in
    omega arith

pub returns-clause-small : goal.returns-clause-small
returns-clause-small c =
    let small = digits_small c.args.bytes.now c.requires.digits in
    let is = c.loop-b.invariant in
    let all = take_all c.loop-b.b-index c.args.bytes.now (omega arith) in
    rw (is, all) small
