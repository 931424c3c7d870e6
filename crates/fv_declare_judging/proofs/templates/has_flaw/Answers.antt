use Rattle.fv_declare_judging.proofs.Flawed.{checked}
use Rattle.fv_declare_judging.proofs.templates.has_flaw.Goals as goal

pub returns-in-Misspelt : goal.returns-in-Misspelt
returns-in-Misspelt c = rw c.in-Misspelt.is (checked c.args.template.now c.check_template.result c.check_template.ensures)
