use Rattle.std.proofs.Common.{◌≡◌, map, drop, not, is_some, if◌then◌else◌, Some, None}
use Rattle.fv_first.specs.First.{first_from}
use Rattle.fv_declare_schema.specs.GroupViews.{declared_view}
use Rattle.fv_declare_schema.specs.Groups.{all_groups, group_number}
use Rattle.fv_declare_schema.specs.Whereabouts.{first_unknown}
use Rattle.fv_declare_groups.proofs.unknown.first_unknown.Given as goal

abbrev pub invariant-loop-number : goal.invariant-loop-number
invariant-loop-number l =
    first_from (λ n name. if not (is_some (group_number (all_groups (declared_view l.declared)) name)) then Some n else None) l.number (map (λ n. n.now) (drop l.number l.names))
    ≡ first_unknown (all_groups (declared_view l.declared)) (map (λ n. n.now) l.names)
