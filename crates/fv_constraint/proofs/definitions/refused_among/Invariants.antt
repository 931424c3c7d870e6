use Rattle.std.proofs.Common.{◌≡◌, map, drop}
use Rattle.fv_first.specs.First.{first_from, first_in}
use Rattle.fv_constraint.specs.Whereabouts.{refused_composing}
use Rattle.fv_declare_definition.specs.DefinitionViews.{composing_view, definition_entry, definition_view}
use Rattle.fv_constraint.proofs.definitions.refused_among.Given as goal

abbrev pub invariant-loop-place : goal.invariant-loop-place
invariant-loop-place l =
    first_from (refused_composing (map definition_entry l.definitions.entries) (definition_view l.definition) l.number) l.place (map composing_view (drop l.place l.composing-items))
    ≡ first_in (refused_composing (map definition_entry l.definitions.entries) (definition_view l.definition) l.number) (map composing_view l.definition.composing.items)
