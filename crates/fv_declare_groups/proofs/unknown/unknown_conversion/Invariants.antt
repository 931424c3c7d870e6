use Rattle.std.proofs.Common.{◌≡◌, map, drop, option_map}
use Rattle.fv_first.specs.First.{first_from, first_where}
use Rattle.fv_declare_schema.specs.GroupViews.{declared_view}
use Rattle.fv_declare_schema.specs.Groups.{all_groups}
use Rattle.fv_declare_groups.specs.declared.at.GroupingAt.TheVariants as at
use Rattle.fv_declare_groups.specs.declared.at.CascadeAt.TheVariants.{Conversion}
use Rattle.fv_declare_draft.specs.UseViews.{cascade_view}
use Rattle.fv_declare_groups.specs.Grouping.{conversion_unknown}
use Rattle.fv_declare_groups.specs.Whereabouts.{unknown_conversion}
use Rattle.fv_declare_groups.proofs.unknown.unknown_conversion.Given as goal

abbrev pub invariant-loop-number : goal.invariant-loop-number
invariant-loop-number l =
    first_from (λ n c. option_map (λ k. at.Cascade n (Conversion k)) (first_where (conversion_unknown (all_groups (declared_view l.declared))) c.placed.cascade.conversions)) l.number (map cascade_view (drop l.number l.cascades))
    ≡ unknown_conversion (all_groups (declared_view l.declared)) (map cascade_view l.cascades)
