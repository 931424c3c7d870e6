use Rattle.fv_local.proofs.Below.{below_differs}
use Rattle.fv_local.proofs.laws.below_has_each_once.Goals as goal

pub returns : goal.returns
returns c = λ gs g. below_differs gs g
