use Rattle.std.proofs.Common.{arith, ◌≤◌, ◌^◌, lit<}
use Rattle.std.proofs.Math.Nat.{pow-le-pow_right}
use Rattle.fv_json_schema.proofs.bound.most_of_digits.Goals as goal

pub returns-then-count-gt18-clause-none : goal.returns-then-count-gt18-clause-none
returns-then-count-gt18-clause-none c = λ none.
    let more : 19 ≤ c.args.count = omega arith in
    let power : 10 ^ 19 ≤ 10 ^ c.args.count = pow-le-pow_right {n = 10} (lit< tt) more in
    omega arith
