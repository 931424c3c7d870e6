use Rattle.fv_graph.proofs.Unfolding.{unfolds_at}
use Rattle.fv_graph.proofs.laws.unfolds_at.Goals as goal

pub returns : goal.returns
returns g c = λ combine next count below i none. unfolds_at combine next count below i none
