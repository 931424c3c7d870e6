use Rattle.fv_command_laws.proofs.Parted.{part_faulty}
use Rattle.fv_command_laws.proofs.laws.part_faults_are_told.Goals as goal

pub returns : goal.returns
returns c = λ ds m ps n f told. part_faulty ds m ps n f told
