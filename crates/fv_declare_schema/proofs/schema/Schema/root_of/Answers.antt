use Rattle.std.proofs.Common.{Bor, option_map, sym, ap, ◌∙◌}
use Rattle.fv_bundle.specs.Types.{name_at}
use Rattle.fv_bundle.specs.TypesView.{types_view}
use Rattle.fv_declare_schema.specs.declared.schema.Form.{Form}
use Rattle.fv_datum.proofs.Lookups.{found_in}
use Rattle.fv_declare_schema.proofs.schema.Schema.root_of.Goals as goal

pub returns-in-None : goal.returns-in-None
returns-in-None c =
    let s = c.self.inside in
    let ts = types_view s.types in
    rw (← c.self.view_is) (ap (option_map (λ (x : Bor Form). name_at ts x.now.root.index)) (sym c.in-None.is)
    ∙ found_in (λ (x : Form). name_at ts x.root.index) c.args.form.now s.numbered.forms.entries c.get.result c.get.ensures.value)

pub returns-in-Some : goal.returns-in-Some
returns-in-Some c =
    let s = c.self.inside in
    let ts = types_view s.types in
    rw (← c.self.view_is) (ap (option_map (λ (x : Bor Form). name_at ts x.now.root.index)) (sym c.in-Some.is)
    ∙ found_in (λ (x : Form). name_at ts x.root.index) c.args.form.now s.numbered.forms.entries c.get.result c.get.ensures.value)
