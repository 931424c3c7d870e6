use Rattle.std.proofs.Common.{◌≡◌, ◌∙◌, Some, None, option_map, is_some, sym, ap}
use Rattle.std.specs.Option.{option_or}
use Rattle.fv_constraint.proofs.PutIn.{given_stays}
use Rattle.fv_datum.specs.Attributes.{attribute_view}
use Rattle.fv_datum.specs.Lookup.{at_name}
use Rattle.fv_constraint.specs.Meanings.{declared}
use Rattle.fv_declare_definition.specs.DefinitionViews.{definition_view}
use Rattle.fv_constraint.specs.Effect.{attribute_default}
use Rattle.fv_constraint.proofs.effect.effective.Goals as goal

pub returns-in-Some : goal.returns-in-Some
returns-in-Some c =
    let default = attribute_default (declared (definition_view c.args.definition.now)) c.args.name.now in
    let given : at_name c.args.name.now c.args.given.now ≡ Some (attribute_view c.in-Some.value.now) = sym c.find.ensures ∙ ap (option_map (λ v. attribute_view v.now)) c.in-Some.is in
    sym given ∙ sym (given_stays (at_name c.args.name.now c.args.given.now) default (ap is_some given))

pub returns-in-None : goal.returns-in-None
returns-in-None c =
    let default = attribute_default (declared (definition_view c.args.definition.now)) c.args.name.now in
    let given : at_name c.args.name.now c.args.given.now ≡ None = sym c.find.ensures ∙ ap (option_map (λ v. attribute_view v.now)) c.in-None.is in
    c.default_of.ensures ∙ ap (λ o. option_or o default) (sym given)
