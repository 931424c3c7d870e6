use Rattle.std.proofs.Common.{◌≡◌, map, drop, not, if◌then◌else◌, Some, None}
use Rattle.fv_first.specs.First.{first_from}
use Rattle.fv_constraint.specs.Composing.{is_set}
use Rattle.fv_constraint.specs.Meanings.{builtin}
use Rattle.fv_constraint.specs.Whereabouts.{lacking_attribute}
use Rattle.fv_declare_definition.specs.DefinitionViews.{composing_view}
use Rattle.fv_constraint.proofs.composing.lacking_required.Given as goal

abbrev pub invariant-loop-number : goal.invariant-loop-number
invariant-loop-number l =
    first_from (λ n name. if not (is_set (composing_view l.composing) name) then Some n else None) l.number (map (λ n. n.now) (drop l.number l.name-items))
    ≡ lacking_attribute (builtin l.fn.which) (composing_view l.composing)
