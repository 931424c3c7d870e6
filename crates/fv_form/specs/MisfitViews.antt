-- The places that contracts see.
use Rattle.std.specs.Prelude.{map}
use Rattle.fv_form.specs.Misfits as spec
use Rattle.fv_form.specs.declared.form_name.FormName.{FormName}
use Rattle.fv_form.specs.declared.misfit.Inward.{Inward}
use Rattle.fv_form.specs.declared.misfit.Inward.TheVariants as step
use Rattle.fv_form.specs.declared.misfit.Flaw.{Flaw}
use Rattle.fv_form.specs.declared.misfit.Flaw.TheVariants as flaw
use Rattle.fv_form.specs.declared.misfit.FormFault.{FormFault}

-- a step
abbrev pub step_view : Inward → spec.Step
step_view (step.Item i) = spec.item i
step_view (step.Member name) = spec.member name.now

-- what is wrong
abbrev pub flaw_view : Flaw → spec.Flaw
flaw_view flaw.Misfit = spec.misfit
flaw_view flaw.Stranger = spec.stranger
flaw_view (flaw.Lacking name) = spec.lacking name.now

-- a place with what is wrong there
abbrev pub misfit_view : FormFault → spec.Misfit FormName
misfit_view m = record { steps = map step_view m.steps.items; flaw = flaw_view m.flaw; form = m.form }
