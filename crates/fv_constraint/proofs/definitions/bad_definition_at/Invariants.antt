use Rattle.std.proofs.Common.{◌≡◌, ◌+◌, ◌<◌, map}
use Prim.Native.Nat.{◌^◌}
use Rattle.fv_first.specs.First.{first_from}
use Rattle.fv_constraint.specs.Whereabouts.{bad_in, bad_definition_at}
use Rattle.fv_declare_definition.specs.DefinitionViews.{definition_entry}
use Rattle.fv_constraint.proofs.definitions.bad_definition_at.Given as goal

abbrev pub invariant-loop-number : goal.invariant-loop-number
invariant-loop-number l =
    (goal.iterator-loop-number).can_next l.definition-iterator ×
    (goal.iterator-loop-number).is_finite l.definition-iterator ×
    l.number + (goal.iterator-loop-number).remaining l.definition-iterator < 2 ^ 64 ×
    (first_from (λ n d. bad_in (map definition_entry l.definitions.entries) n d.1) l.number (map definition_entry l.definition-iterator) ≡ bad_definition_at (map definition_entry l.definitions.entries))
