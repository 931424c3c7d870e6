use Rattle.fv_graph.proofs.Growth.{len_is}
use Rattle.fv_graph.proofs.laws.tree_len.Goals as goal

pub returns : goal.returns
returns g c = λ hands next count node value. len_is hands next count node value
