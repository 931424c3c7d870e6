use Rattle.std.proofs.Common.{◌≡◌, map, drop, if◌then◌else◌, Some, None}
use Rattle.fv_first.specs.First.{first_from, first_where}
use Rattle.fv_declare_schema.specs.GroupViews.{declared_view}
use Rattle.fv_declare_schema.specs.Groups.{all_groups}
use Rattle.fv_declare_groups.specs.Grouping.{member_unknown}
use Rattle.fv_declare_groups.proofs.unknown.unknown_among.Given as goal

abbrev pub invariant-loop-number : goal.invariant-loop-number
invariant-loop-number l =
    first_from (λ n name. if member_unknown (all_groups (declared_view l.declared)) l.type_name name then Some n else None) l.number (map (λ n. n.now) (drop l.number l.members))
    ≡ first_where (member_unknown (all_groups (declared_view l.declared)) l.type_name) (map (λ n. n.now) l.members)
