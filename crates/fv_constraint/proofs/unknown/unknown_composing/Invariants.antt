use Rattle.std.proofs.Common.{◌≡◌, ◌+◌, ◌<◌, map, not, is_some, option_map}
use Prim.Native.Nat.{◌^◌}
use Rattle.fv_first.specs.First.{first_from, first_where}
use Rattle.fv_constraint.specs.Meanings.{meant_by}
use Rattle.fv_constraint.specs.Whereabouts.{unknown_composing}
use Rattle.fv_constraint.specs.declared.at.ConstraintAt.TheVariants as at
use Rattle.fv_declare_definition.specs.DefinitionViews.{definition_entry}
use Rattle.fv_constraint.proofs.unknown.unknown_composing.Given as goal

abbrev pub invariant-loop-number : goal.invariant-loop-number
invariant-loop-number l =
    (goal.iterator-loop-number).can_next l.definition-iterator ×
    (goal.iterator-loop-number).is_finite l.definition-iterator ×
    l.number + (goal.iterator-loop-number).remaining l.definition-iterator < 2 ^ 64 ×
    (first_from (λ n d. option_map (at.Composing n) (first_where (λ c. not (is_some (meant_by (map definition_entry l.definitions.entries) c.constraint))) d.1.composing)) l.number (map definition_entry l.definition-iterator)
    ≡ unknown_composing (map definition_entry l.definitions.entries))
