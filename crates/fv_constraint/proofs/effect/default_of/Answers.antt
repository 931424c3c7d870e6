use Rattle.std.proofs.Common.{ap, option_map, option_and_then, sym, ◌∙◌}
use Rattle.fv_declare_definition.specs.DefinitionViews.{attribute_definition_view}
use Rattle.fv_datum.proofs.Lookups.{found_at, option_map-copied}
use Rattle.fv_datum.specs.Attributes.{attribute_view}
use Rattle.fv_constraint.proofs.effect.default_of.Goals as goal

pub returns-in-None : goal.returns-in-None
returns-in-None c =
    let found = found_at attribute_definition_view c.args.name.now c.args.definition.now.attributes.entries c.get.result c.get.ensures.value in
    ap (option_and_then (λ a. a.default)) (sym (ap (option_map (λ a. attribute_definition_view a.now)) c.in-None.is) ∙ found)

pub returns-in-Some : goal.returns-in-Some
returns-in-Some c =
    let found = found_at attribute_definition_view c.args.name.now c.args.definition.now.attributes.entries c.get.result c.get.ensures.value in
    option_map-copied attribute_view c.as_ref.result ∙ ap (option_map attribute_view) c.as_ref.ensures.value
    ∙ ap (option_and_then (λ a. a.default)) (sym (ap (option_map (λ a. attribute_definition_view a.now)) c.in-Some.is) ∙ found)
