-- The forms that contracts see.
use Rattle.std.specs.Prelude.{map}
use Rattle.fv_form.specs.Misfits as spec
use Rattle.fv_form.specs.declared.form_name.FormName.{FormName}
use Rattle.fv_form.specs.declared.form.Entry.{Entry}
use Rattle.fv_form.specs.declared.form.ValueForm.{ValueForm}
use Rattle.fv_form.specs.declared.form.ValueForm.TheVariants as form

-- an entry
abbrev pub entry_view : Entry → spec.Entry FormName
entry_view e = record { name = e.name.now; required = e.required; form = e.form }

-- a form
abbrev pub form_view : ValueForm → spec.Form FormName
form_view form.Fits = spec.fits
form_view form.Unfit = spec.unfit
form_view (form.Items g) = spec.items g
form_view (form.Members g) = spec.members g
form_view (form.Object es) = spec.object (map entry_view es.now)
