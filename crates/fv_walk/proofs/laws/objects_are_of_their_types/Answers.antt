use Rattle.fv_walk.proofs.Typed.{object_of_type}
use Rattle.fv_walk.proofs.laws.objects_are_of_their_types.Goals as goal

pub returns : goal.returns
returns c = object_of_type
