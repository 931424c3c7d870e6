use Rattle.std.proofs.Common.{rules, ◌≡◌, map, Some, None, is_some, ap, ◌∙◌}
use Rattle.fv_constraint.proofs.Told.{empty_told}
use Rattle.fv_constraint.specs.Whereabouts.{empty_definition}
use Rattle.fv_declare_definition.specs.DefinitionViews.{definition_entry}
use Rattle.fv_constraint.proofs.definitions.empty_definition.Goals as goal

pub returns-then-is_empty-clause-found : goal.returns-then-is_empty-clause-found
returns-then-is_empty-clause-found c =
    let ds = map definition_entry c.args.definitions.now.entries in
    let place : Some c.loop-number.number ≡ empty_definition ds = search rules in
    ap is_some place ∙ empty_told ds

pub returns-clause-found : goal.returns-clause-found
returns-clause-found c =
    let ds = map definition_entry c.args.definitions.now.entries in
    let place : None ≡ empty_definition ds = search rules in
    ap is_some place ∙ empty_told ds
