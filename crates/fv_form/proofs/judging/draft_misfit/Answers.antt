use Rattle.serde_json.specs.View.{view as json_view}
use Rattle.fv_declare_draft.specs.Drafts.{draft_of}
use Rattle.fv_form.specs.MisfitViews.{misfit_view}
use Rattle.fv_form.specs.declared.form_name.FormName.TheVariants.{Declarations}
use Rattle.fv_form.proofs.Drafted.{draft_kept}
use Rattle.fv_form.proofs.Found.{found_where}
use Rattle.fv_form.proofs.judging.draft_misfit.Goals as goal

pub returns-clause-found : goal.returns-clause-found
returns-clause-found c = found_where misfit_view c.first_misfit.result Declarations (json_view c.args.value.now) (draft_of (json_view c.args.value.now)) c.first_misfit.ensures (draft_kept (json_view c.args.value.now))
