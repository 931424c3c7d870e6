use Rattle.fv_flatten.proofs.Unique.{unique}
use Rattle.fv_flatten.proofs.uniqueness.tree_is_unique.Goals as goal

pub returns : goal.returns
returns c = λ ds name own given t u x y. unique ds name own given t u x y
