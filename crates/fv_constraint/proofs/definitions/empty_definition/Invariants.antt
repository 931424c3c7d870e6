use Rattle.std.proofs.Common.{◌≡◌, ◌+◌, ◌<◌, map, if◌then◌else◌, Some, None}
use Prim.Native.Nat.{◌^◌}
use Rattle.fv_first.specs.First.{first_from}
use Rattle.fv_constraint.specs.Refusals.{is_empty}
use Rattle.fv_constraint.specs.Whereabouts.{empty_definition}
use Rattle.fv_declare_definition.specs.DefinitionViews.{definition_entry}
use Rattle.fv_constraint.proofs.definitions.empty_definition.Given as goal

abbrev pub invariant-loop-number : goal.invariant-loop-number
invariant-loop-number l =
    (goal.iterator-loop-number).can_next l.definition-iterator ×
    (goal.iterator-loop-number).is_finite l.definition-iterator ×
    l.number + (goal.iterator-loop-number).remaining l.definition-iterator < 2 ^ 64 ×
    (first_from (λ n d. if is_empty d.1 then Some n else None) l.number (map definition_entry l.definition-iterator) ≡ empty_definition (map definition_entry l.definitions.entries))
