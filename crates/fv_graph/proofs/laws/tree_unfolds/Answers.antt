use Rattle.fv_graph.proofs.Growth.{tree_is}
use Rattle.fv_graph.proofs.laws.tree_unfolds.Goals as goal

pub returns : goal.returns
returns g c = λ hands next count below acyclic node value. tree_is hands next count node value below acyclic
