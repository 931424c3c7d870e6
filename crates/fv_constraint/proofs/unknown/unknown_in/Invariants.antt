use Rattle.std.proofs.Common.{◌≡◌, map, drop, not, is_some, if◌then◌else◌, Some, None}
use Rattle.fv_first.specs.First.{first_from, first_where}
use Rattle.fv_constraint.specs.Meanings.{meant_by}
use Rattle.fv_declare_definition.specs.DefinitionViews.{composing_view, definition_entry}
use Rattle.fv_constraint.proofs.unknown.unknown_in.Given as goal

abbrev pub invariant-loop-number : goal.invariant-loop-number
invariant-loop-number l =
    first_from (λ n c. if not (is_some (meant_by (map definition_entry l.definitions.entries) c.constraint)) then Some n else None) l.number (map composing_view (drop l.number l.definition.composing.items))
    ≡ first_where (λ c. not (is_some (meant_by (map definition_entry l.definitions.entries) c.constraint))) (map composing_view l.definition.composing.items)
