use Rattle.std.proofs.Common.{◌+◌, ◌<◌, ◌≡◌, map}
use Prim.Native.Nat.{◌^◌}
use Rattle.fv_declare_definition.specs.DefinitionViews.{definition_entry}
use Rattle.fv_first.specs.First.{first_from, first_in}
use Rattle.fv_declare_judging.specs.WordingPlaces.{flawed_definition}
use Rattle.fv_declare_judging.proofs.templates.flawed_definition.Given as goal

abbrev pub invariant-loop-number : goal.invariant-loop-number
invariant-loop-number l =
    (goal.iterator-loop-number).can_next l.definition-iterator ×
    (goal.iterator-loop-number).is_finite l.definition-iterator ×
    l.number + (goal.iterator-loop-number).remaining l.definition-iterator < 2 ^ 64 ×
    (first_from (flawed_definition l.flaw) l.number (map definition_entry l.definition-iterator) ≡ first_in (flawed_definition l.flaw) (map definition_entry l.definitions.entries))
