use Rattle.std.proofs.Common.{◌≡◌, ◌+◌, ◌<◌, ◌&&◌, map, not, is_some, if◌then◌else◌, Some, None}
use Prim.Native.Nat.{◌^◌}
use Rattle.fv_first.specs.First.{first_from}
use Rattle.fv_constraint.specs.Composing.{is_set}
use Rattle.fv_constraint.specs.Meanings.{declared}
use Rattle.fv_constraint.specs.Whereabouts.{lacking_attribute}
use Rattle.fv_declare_definition.specs.DefinitionViews.{attribute_entry, composing_view, definition_view}
use Rattle.fv_constraint.proofs.composing.lacking_declared.Given as goal

abbrev pub invariant-loop-number : goal.invariant-loop-number
invariant-loop-number l =
    (goal.iterator-loop-number).can_next l.name-iterator ×
    (goal.iterator-loop-number).is_finite l.name-iterator ×
    l.number + (goal.iterator-loop-number).remaining l.name-iterator < 2 ^ 64 ×
    (first_from (λ n a. if not (is_some a.1.default) && not (is_set (composing_view l.composing) a.0) then Some n else None) l.number (map attribute_entry l.name-iterator)
    ≡ lacking_attribute (declared (definition_view l.definition)) (composing_view l.composing))
