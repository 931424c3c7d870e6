use Rattle.std.proofs.Common.{map, option_map, is_some, sym, ap, ◌∙◌}
use Rattle.fv_datum.proofs.Lookups.{found_at}
use Rattle.fv_declare_definition.specs.DefinitionViews.{attribute_definition_view, attribute_entry}
use Rattle.fv_constraint.proofs.Signatures.{kind_seen}
use Rattle.fv_constraint.proofs.composing.declared_kind.Goals as goal

pub returns-in-None : goal.returns-in-None
returns-in-None c =
    let es = c.args.definition.now.attributes.entries in
    let found = found_at attribute_definition_view c.args.name.now es c.get.result c.get.ensures.value in
    sym (kind_seen (λ a. (a.kind, is_some a.default)) c.args.name.now (map attribute_entry es) ∙ ap (option_map (λ a. a.kind)) (sym found)
    ∙ ap (λ o. option_map (λ a. a.kind) (option_map (λ a. attribute_definition_view a.now) o)) c.in-None.is)

pub returns-in-Some : goal.returns-in-Some
returns-in-Some c =
    let es = c.args.definition.now.attributes.entries in
    let found = found_at attribute_definition_view c.args.name.now es c.get.result c.get.ensures.value in
    sym (kind_seen (λ a. (a.kind, is_some a.default)) c.args.name.now (map attribute_entry es) ∙ ap (option_map (λ a. a.kind)) (sym found)
    ∙ ap (λ o. option_map (λ a. a.kind) (option_map (λ a. attribute_definition_view a.now) o)) c.in-Some.is)
