use Rattle.std.proofs.Common.{rules, ◌≡◌, map, Some, None, is_some, ap, ◌∙◌}
use Rattle.fv_constraint.proofs.Told.{unknown_told}
use Rattle.fv_constraint.specs.Whereabouts.{unknown_composing}
use Rattle.fv_constraint.specs.declared.at.ConstraintAt.TheVariants as at
use Rattle.fv_declare_definition.specs.DefinitionViews.{definition_entry}
use Rattle.fv_constraint.proofs.unknown.unknown_composing.Goals as goal

pub returns-in-Some-unknown_in-clause-found : goal.returns-in-Some-unknown_in-clause-found
returns-in-Some-unknown_in-clause-found c =
    let ds = map definition_entry c.args.definitions.now.entries in
    let place : Some (at.Composing c.loop-number.number c.in-Some-unknown_in.place) ≡ unknown_composing ds = search rules in
    ap is_some place ∙ unknown_told ds

pub returns-clause-found : goal.returns-clause-found
returns-clause-found c =
    let ds = map definition_entry c.args.definitions.now.entries in
    let place : None ≡ unknown_composing ds = search rules in
    ap is_some place ∙ unknown_told ds
