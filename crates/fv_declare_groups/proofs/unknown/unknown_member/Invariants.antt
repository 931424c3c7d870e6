use Rattle.std.proofs.Common.{◌≡◌, map, drop, option_map}
use Rattle.fv_first.specs.First.{first_from, first_where}
use Rattle.fv_declare_schema.specs.GroupViews.{declared_view}
use Rattle.fv_declare_schema.specs.Groups.{all_groups}
use Rattle.fv_declare_groups.specs.declared.at.GroupingAt.TheVariants as at
use Rattle.fv_declare_draft.specs.DraftViews.{type_view}
use Rattle.fv_declare_groups.specs.Grouping.{member_unknown, sequence_members}
use Rattle.fv_declare_groups.specs.Whereabouts.{unknown_member}
use Rattle.fv_declare_groups.proofs.unknown.unknown_member.Given as goal

abbrev pub invariant-loop-number : goal.invariant-loop-number
invariant-loop-number l =
    first_from (λ n t. option_map (at.Member n) (first_where (member_unknown (all_groups (declared_view l.declared)) t.name) (sequence_members t))) l.number (map type_view (drop l.number l.types))
    ≡ unknown_member (all_groups (declared_view l.declared)) (map type_view l.types)
