use Rattle.std.proofs.Common.{◌≡◌, ◌+◌, ◌<◌, map, if◌then◌else◌, Some, None}
use Prim.Native.Nat.{◌^◌}
use Rattle.fv_first.specs.First.{first_from}
use Rattle.fv_constraint.specs.Refusals.{is_other_kind}
use Rattle.fv_constraint.specs.Whereabouts.{bad_default_at}
use Rattle.fv_declare_definition.specs.DefinitionViews.{attribute_entry, definition_view}
use Rattle.fv_constraint.proofs.refusals.bad_default.Given as goal

abbrev pub invariant-loop-number : goal.invariant-loop-number
invariant-loop-number l =
    (goal.iterator-loop-number).can_next l.attribute-iterator ×
    (goal.iterator-loop-number).is_finite l.attribute-iterator ×
    l.number + (goal.iterator-loop-number).remaining l.attribute-iterator < 2 ^ 64 ×
    (first_from (λ n a. if is_other_kind a.1.kind a.1.default then Some n else None) l.number (map attribute_entry l.attribute-iterator) ≡ bad_default_at (definition_view l.definition))
