use Rattle.fv_graph.proofs.Unfolding.{unfolds_at}
use Rattle.fv_graph.specs.Weight.{weighed}
use Rattle.fv_graph.proofs.laws.weight_unfolds_at.Goals as goal

pub returns : goal.returns
returns c = λ own next count below i none. unfolds_at (weighed own) next count below i none
