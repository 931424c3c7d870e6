use Rattle.fv_command_laws.proofs.Shaped.{misfits_refused}
use Rattle.fv_command_laws.proofs.laws.misfits_are_refused.Goals as goal

pub returns : goal.returns
returns c = λ ds m j r asked. misfits_refused ds m j r asked
