use Rattle.std.proofs.Common.{◌+◌, ◌<◌, ◌≡◌, map}
use Prim.Native.Nat.{◌^◌}
use Rattle.fv_declare_definition.specs.DefinitionViews.{definition_entry}
use Rattle.fv_first.specs.First.{first_from, first_in}
use Rattle.fv_declare_judging.specs.NamePlaces.{bad_definition}
use Rattle.fv_declare_judging.proofs.naming.bad_definition.Given as goal

abbrev pub invariant-loop-number : goal.invariant-loop-number
invariant-loop-number l =
    (goal.iterator-loop-number).can_next l.name-iterator ×
    (goal.iterator-loop-number).is_finite l.name-iterator ×
    l.number + (goal.iterator-loop-number).remaining l.name-iterator < 2 ^ 64 ×
    (first_from bad_definition l.number (map definition_entry l.name-iterator) ≡ first_in bad_definition (map definition_entry l.definitions.entries))
