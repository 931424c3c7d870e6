use Rattle.fv_declare_schema.proofs.Edges.{unfolded}
use Rattle.fv_declare_schema.proofs.laws.ranks_unfold.Goals as goal

pub returns : goal.returns
returns c = λ gs sound g. unfolded gs sound g
