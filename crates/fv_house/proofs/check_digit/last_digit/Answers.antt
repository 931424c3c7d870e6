use Rattle.std.proofs.Common.{zero-add, ◌%◌, ap, ◌∙◌, arith}
use Rattle.fv_house.proofs.Digits.{whole}
use Rattle.fv_house.proofs.check_digit.last_digit.Goals as goal

pub loop-left-init : goal.loop-left-init
loop-left-init c = (omega arith, omega arith, ap (λ n. n % 10) (zero-add _ ∙ whole c.args.bytes.now))
