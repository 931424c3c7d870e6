use Rattle.fv_command_laws.proofs.Refused.{refused_there}
use Rattle.fv_command_laws.proofs.laws.absences_are_told.Goals as goal

pub returns : goal.returns
returns c = λ ds m r w told. refused_there ds m r w told
