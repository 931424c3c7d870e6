use Rattle.std.proofs.Common.{◌≡◌, ◌∙◌, sym, arith}
use Rattle.fv_explain_over.proofs.Fronts.{front_ends}
use Rattle.fv_explain_over.proofs.differing.same_front.Goals as goal

pub returns-clause-exact : goal.returns-clause-exact
returns-clause-exact c =
    let here : c.min-shorter.result ≡ c.loop-number.number = omega (arith, c.loop-number-test.false, c.loop-number.auto.number-end) in
    here ∙ front_ends c.args.old.now c.args.new.now c.loop-number.number _ (sym here ∙ c.min-shorter.ensures) c.loop-number.invariant
