use Rattle.fv_command_laws.proofs.Faults.{at_fault}
use Rattle.fv_command_laws.proofs.laws.faults_are_told.Goals as goal

pub returns : goal.returns
returns c = λ ds m r f told. at_fault ds m f r told
