use Rattle.fv_local.proofs.Apart.{told_apart}
use Rattle.fv_local.proofs.request_laws.violations_are_told_apart.Goals as goal

pub returns : goal.returns
returns c = told_apart
