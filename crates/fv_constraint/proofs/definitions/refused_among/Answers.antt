use Rattle.std.proofs.Common.{map, sym, ◌∙◌, arith}
use Rattle.fv_constraint.proofs.FirstTurns.{composing_turn, found_here, found_later}
use Rattle.fv_constraint.specs.Whereabouts.{refused_composing}
use Rattle.fv_declare_definition.specs.DefinitionViews.{definition_entry, definition_view}
use Rattle.fv_constraint.proofs.definitions.refused_among.Goals as goal

pub returns-in-Some : goal.returns-in-Some
returns-in-Some c =
    let refused = refused_composing (map definition_entry c.args.definitions.now.entries) (definition_view c.args.definition.now) c.args.number in
    let turn = composing_turn refused c.deref-composing-items.result.now c.loop-place.place c.composing-item.result (omega arith) c.composing-item.is in
    found_here _ _ _ _ c.in-Some.at (sym c.refused_composing.ensures ∙ c.in-Some.is) turn c.loop-place.invariant

pub loop-place-preserved : goal.loop-place-preserved
loop-place-preserved c =
    let refused = refused_composing (map definition_entry c.args.definitions.now.entries) (definition_view c.args.definition.now) c.args.number in
    let turn = composing_turn refused c.deref-composing-items.result.now c.loop-place.place c.composing-item.result (omega arith) c.composing-item.is in
    found_later _ _ _ _ (sym c.refused_composing.ensures ∙ c.in_default.is) turn c.loop-place.invariant
