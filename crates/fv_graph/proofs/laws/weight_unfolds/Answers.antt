use Rattle.fv_graph.proofs.Unfolding.{unfolds}
use Rattle.fv_graph.specs.Weight.{weighed}
use Rattle.fv_graph.proofs.laws.weight_unfolds.Goals as goal

pub returns : goal.returns
returns c = λ own next count below acyclic i. unfolds (weighed own) next count below acyclic i
