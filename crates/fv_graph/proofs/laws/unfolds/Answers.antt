use Rattle.fv_graph.proofs.Unfolding.{unfolds}
use Rattle.fv_graph.proofs.laws.unfolds.Goals as goal

pub returns : goal.returns
returns g c = λ combine next count below acyclic i. unfolds combine next count below acyclic i
