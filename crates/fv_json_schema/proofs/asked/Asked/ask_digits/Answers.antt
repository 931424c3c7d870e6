use mir.Syntax.{w64}
use mir.Val.{SFits}
use Rattle.std.proofs.Common.{arith, rules, ◌^◌, lit<}
use Rattle.std.proofs.Math.Nat.{one-le-pow}
use Rattle.std.proofs.lemmas.Int.{ints, clamps}
use Rattle.fv_json_schema.proofs.Adding.{digits_within, within_digits}
use Rattle.fv_json_schema.proofs.asked.Asked.ask_digits.Goals as goal

pub returns-in-Some-clause-sound : goal.returns-in-Some-clause-sound
returns-in-Some-clause-sound c n fits within few =
    let far = digits_within n c.in-Some.whole (10 ^ c.args.integer) c.in-Some.ensures.found (one-le-pow c.args.integer 10 (lit< tt)) few in
    (omega (arith, ints, clamps, c.max-self.ensures.value, far.0, within.0), omega (arith, ints, clamps, c.min-self.ensures.value, far.1, within.1))

pub returns-in-Some-clause-said : goal.returns-in-Some-clause-said
returns-in-Some-clause-said c kind n fits within =
    let fits' : SFits w64 c.in-Some.whole = search rules in
    let some = one-le-pow c.args.integer 10 (lit< tt) in
    within_digits n c.in-Some.whole (10 ^ c.args.integer) c.in-Some.ensures.found some
    (omega (arith, ints, clamps, c.max-self.ensures.value, within.0, c.in-Some.ensures.found, some, fits'))
    (omega (arith, ints, clamps, c.min-self.ensures.value, within.1))
