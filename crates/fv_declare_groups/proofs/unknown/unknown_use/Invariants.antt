use Rattle.std.proofs.Common.{◌≡◌, map, drop, option_map}
use Rattle.fv_first.specs.First.{first_from}
use Rattle.fv_declare_schema.specs.GroupViews.{declared_view}
use Rattle.fv_declare_schema.specs.Groups.{all_groups}
use Rattle.fv_declare_groups.specs.declared.at.GroupingAt.TheVariants as at
use Rattle.fv_declare_draft.specs.UseViews.{use_view}
use Rattle.fv_declare_groups.specs.Whereabouts.{unknown_use}
use Rattle.fv_declare_schema.specs.Whereabouts.{first_unknown}
use Rattle.fv_declare_groups.proofs.unknown.unknown_use.Given as goal

abbrev pub invariant-loop-number : goal.invariant-loop-number
invariant-loop-number l =
    first_from (λ n u. option_map (at.Use n) (first_unknown (all_groups (declared_view l.declared)) u.draft.groups)) l.number (map use_view (drop l.number l.uses))
    ≡ unknown_use (all_groups (declared_view l.declared)) (map use_view l.uses)
