use Rattle.std.proofs.Common.{◌≡◌, map, drop, option_map}
use Rattle.fv_first.specs.First.{first_from}
use Rattle.fv_declare_groups.specs.declared.at.GroupingAt.TheVariants as at
use Rattle.fv_declare_draft.specs.UseViews.{cascade_view}
use Rattle.fv_declare_groups.specs.Whereabouts.{misplaced_at, misplaced_in}
use Rattle.fv_declare_groups.proofs.conversions.misplaced_in.Given as goal

abbrev pub invariant-loop-number : goal.invariant-loop-number
invariant-loop-number l =
    first_from (λ n c. option_map (at.Cascade n) (misplaced_at l.graph c)) l.number (map cascade_view (drop l.number l.cascades))
    ≡ misplaced_in l.graph (map cascade_view l.cascades)
