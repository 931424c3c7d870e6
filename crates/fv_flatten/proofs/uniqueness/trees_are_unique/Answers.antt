use Rattle.fv_flatten.proofs.Trees.{trees_unique}
use Rattle.fv_flatten.proofs.uniqueness.trees_are_unique.Goals as goal

pub returns : goal.returns
returns c = λ ds us ts others x y. trees_unique ds us ts others x y
