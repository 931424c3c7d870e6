use Rattle.fv_local.proofs.Below.{below_is}
use Rattle.fv_local.proofs.laws.below_is_what_is_inherited.Goals as goal

pub returns : goal.returns
returns c = λ gs g h. below_is gs g h
