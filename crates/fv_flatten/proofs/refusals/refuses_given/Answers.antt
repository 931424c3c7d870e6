use Rattle.std.proofs.Common.{◌≡◌, ◌||◌, is_some, sym, ap, ◌∙◌}
use Rattle.fv_flatten.proofs.Told.{foreign_told}
use Rattle.fv_constraint.specs.Composing.{signature_attributes, gives_foreign}
use Rattle.fv_constraint.specs.Meanings.{declared}
use Rattle.fv_constraint.specs.MeantView.{meant_view}
use Rattle.fv_flatten.specs.Refusals.{lacks_value, refuses_given}
use Rattle.fv_declare_definition.specs.DefinitionViews.{definition_view}
use Rattle.fv_flatten.proofs.refusals.refuses_given.Goals as goal

pub returns-then-is_some : goal.returns-then-is_some
returns-then-is_some c =
    let given = c.args.given.now in
    let d = definition_view c.in-Declared.definition.now in
    let foreign : c.is_some.result ≡ gives_foreign (signature_attributes (declared d)) given =
    c.is_some.ensures ∙ ap is_some c.foreign_given.ensures ∙ foreign_told (signature_attributes (meant_view c.args.meant)) given ∙ ap (λ m. gives_foreign (signature_attributes (meant_view m)) given) c.in-Declared.is in
    c.if-is_some.true ∙ sym (ap (λ m. refuses_given (meant_view m) given) c.in-Declared.is ∙ ap (λ b. b || lacks_value d.attributes given) (sym foreign ∙ c.if-is_some.true))

pub returns-else-is_some : goal.returns-else-is_some
returns-else-is_some c =
    let given = c.args.given.now in
    let d = definition_view c.in-Declared.definition.now in
    let foreign : c.is_some.result ≡ gives_foreign (signature_attributes (declared d)) given =
    c.is_some.ensures ∙ ap is_some c.foreign_given.ensures ∙ foreign_told (signature_attributes (meant_view c.args.meant)) given ∙ ap (λ m. gives_foreign (signature_attributes (meant_view m)) given) c.in-Declared.is in
    c.lacks_value.ensures ∙ sym (ap (λ m. refuses_given (meant_view m) given) c.in-Declared.is ∙ ap (λ b. b || lacks_value d.attributes given) (sym foreign ∙ c.if-is_some.false))
