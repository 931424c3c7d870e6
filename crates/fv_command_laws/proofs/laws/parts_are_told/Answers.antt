use Rattle.fv_command_laws.proofs.Parted.{part_lacks}
use Rattle.fv_command_laws.proofs.laws.parts_are_told.Goals as goal

pub returns : goal.returns
returns c = λ ds m ps n w told. part_lacks ds m ps n w told
