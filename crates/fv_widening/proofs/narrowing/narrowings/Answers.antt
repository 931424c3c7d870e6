use Rattle.std.proofs.Common.{◌≡◌, [], sym, ◌∙◌}
use Rattle.fv_bundle.specs.Names.{object_types_view}
use Rattle.fv_bundle.specs.Types.{AreApart, FieldsApart}
use Rattle.fv_bundle.specs.TypesView.{types_view}
use Rattle.fv_widening.specs.Narrowed.{narrowed}
use Rattle.fv_widening.specs.Widens.{Widens}
use Rattle.fv_widening.proofs.Widened.{if_ok, widened, none_narrowed}
use Rattle.fv_widening.proofs.narrowing.narrowings.Goals as goal

pub returns-clause-widens : goal.returns-clause-widens
returns-clause-widens c =
    let old = types_view c.args.old.now in
    let forms = object_types_view c.args.forms.now in
    let new = types_view c.args.new.now in
    let new_forms = object_types_view c.args.new_forms.now in
    if_ok (λ v. v.items ≡ narrowed old forms new new_forms) (λ v. v.items ≡ [] → Widens old forms new new_forms) c.all_narrowed.result
    (λ v is none. widened old forms new new_forms (sym is ∙ none)) c.all_narrowed.ensures

pub returns-clause-narrows : goal.returns-clause-narrows
returns-clause-narrows c =
    let old = types_view c.args.old.now in
    let forms = object_types_view c.args.forms.now in
    let new = types_view c.args.new.now in
    let new_forms = object_types_view c.args.new_forms.now in
    if_ok (λ v. v.items ≡ narrowed old forms new new_forms)
    (λ v. AreApart old → FieldsApart old → AreApart forms → Widens old forms new new_forms → v.items ≡ []) c.all_narrowed.result
    (λ v is apart fields_apart forms_apart widens. is ∙ none_narrowed old forms new new_forms apart fields_apart forms_apart widens) c.all_narrowed.ensures
