use Rattle.std.proofs.Common.{Bor, ap, ◌∙◌}
use Rattle.fv_bundle.specs.Types.{name_at}
use Rattle.fv_datum.specs.Lookup.{at_name}
use Rattle.fv_datum.proofs.Lookups.{found_in}
use Rattle.fv_declare_schema.specs.declared.schema.Form.{Form}
use Rattle.fv_json_schema.proofs.Absent.{absent}
use Rattle.fv_json_schema.proofs.bundle.form_of.Goals as goal

pub returns : goal.returns
returns c =
    let ts = c.args.schema.now.types in
    absent (λ (x : Bor Form). name_at ts x.now.root.index) c.get.result (at_name c.args.form.now c.args.schema.now.forms)
    (found_in (λ (x : Form). name_at ts x.root.index) c.args.form.now c.forms.result.now.entries c.get.result c.get.ensures.value
    ∙ ap (at_name c.args.form.now) c.forms.ensures.roots)
