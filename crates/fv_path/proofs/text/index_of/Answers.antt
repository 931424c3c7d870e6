use Rattle.std.proofs.lemmas.Bool.{both_ways}
use Rattle.fv_path.proofs.Fronts.{index_read, digits_utf8, no_leading_zero}
use Rattle.fv_path.proofs.text.index_of.Goals as goal

pub returns-then-has_leading_zero : goal.returns-then-has_leading_zero
returns-then-has_leading_zero c n small e =
    let zero = c.has_leading_zero.ensures.0 c.if-has_leading_zero.true in
    no_leading_zero n small (rw e at zero.0) (rw e at zero.1)

pub returns-in-Ok : goal.returns-in-Ok
returns-in-Ok c =
    let parsed = rw c.in-Ok.ensures.cases.0 at c.parse.ensures.value.0 in
    rw c.ok.ensures.value (index_read c.args.digits.now c.parse.result c.requires (λ first long. both_ways c.has_leading_zero.result c.if-has_leading_zero.false (c.has_leading_zero.ensures.1 (first, long))) parsed)

pub returns-in-Err : goal.returns-in-Err
returns-in-Err c n small e = c.in-Err.ensures.cases.0 (digits_utf8 c.args.digits.now c.requires)
