use Rattle.std.proofs.Common.{◌≡◌, ◌+◌, ◌<◌, map, if◌then◌else◌, Some, None}
use Prim.Native.Nat.{◌^◌}
use Rattle.fv_first.specs.First.{first_from}
use Rattle.fv_constraint.specs.Refusals.{is_unknown_rule}
use Rattle.fv_constraint.specs.Whereabouts.{unknown_rule_at}
use Rattle.fv_constraint.specs.declared.at.ConstraintAt.TheVariants as at
use Rattle.fv_declare_definition.specs.DefinitionViews.{definition_entry}
use Rattle.fv_constraint.proofs.definitions.unknown_rule_at.Given as goal

abbrev pub invariant-loop-number : goal.invariant-loop-number
invariant-loop-number g l =
    (goal.iterator-loop-number g).can_next l.definition-iterator ×
    (goal.iterator-loop-number g).is_finite l.definition-iterator ×
    l.number + (goal.iterator-loop-number g).remaining l.definition-iterator < 2 ^ 64 ×
    (first_from (λ n d. if is_unknown_rule (g.R.RuleSet.known l.rules) d.1.rule then Some (at.Definition n) else None) l.number (map definition_entry l.definition-iterator)
    ≡ unknown_rule_at (g.R.RuleSet.known l.rules) (map definition_entry l.definitions.entries))
