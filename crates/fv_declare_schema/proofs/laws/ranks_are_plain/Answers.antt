use Rattle.fv_declare_schema.proofs.Plain.{ranks_plain}
use Rattle.fv_declare_schema.proofs.laws.ranks_are_plain.Goals as goal

pub returns : goal.returns
returns c = λ gs g j less h. ranks_plain gs g j less h
