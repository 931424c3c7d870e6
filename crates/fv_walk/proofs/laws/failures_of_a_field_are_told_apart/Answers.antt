use Rattle.fv_walk.proofs.Apart.{field_told_apart}
use Rattle.fv_walk.proofs.laws.failures_of_a_field_are_told_apart.Goals as goal

pub returns : goal.returns
returns c = field_told_apart
