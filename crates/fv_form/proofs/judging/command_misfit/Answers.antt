use Rattle.serde_json.specs.View.{view as json_view}
use Rattle.fv_form.specs.Commands.{is_command}
use Rattle.fv_form.specs.MisfitViews.{misfit_view}
use Rattle.fv_form.specs.declared.form_name.FormName.TheVariants.{Command}
use Rattle.fv_form.proofs.Commanded.{command_kept}
use Rattle.fv_form.proofs.Found.{found_as}
use Rattle.fv_form.proofs.judging.command_misfit.Goals as goal

pub returns-clause-found : goal.returns-clause-found
returns-clause-found c = found_as misfit_view c.first_misfit.result Command (json_view c.args.value.now) (is_command (json_view c.args.value.now)) c.first_misfit.ensures (command_kept (json_view c.args.value.now))
