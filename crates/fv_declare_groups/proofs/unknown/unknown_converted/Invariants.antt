use Rattle.std.proofs.Common.{◌≡◌, map, drop, if◌then◌else◌, Some, None}
use Rattle.fv_first.specs.First.{first_from, first_where}
use Rattle.fv_declare_schema.specs.GroupViews.{declared_view}
use Rattle.fv_declare_schema.specs.Groups.{all_groups}
use Rattle.fv_declare_draft.specs.DraftViews.{conversion_view}
use Rattle.fv_declare_groups.specs.Grouping.{conversion_unknown}
use Rattle.fv_declare_groups.proofs.unknown.unknown_converted.Given as goal

abbrev pub invariant-loop-number : goal.invariant-loop-number
invariant-loop-number l =
    first_from (λ n c. if conversion_unknown (all_groups (declared_view l.declared)) c then Some n else None) l.number (map conversion_view (drop l.number l.conversions))
    ≡ first_where (conversion_unknown (all_groups (declared_view l.declared))) (map conversion_view l.conversions)
