use Rattle.std.proofs.Common.{◌<◌, ◌≤◌, ◌-◌, map, take, length}
use Rattle.std.specs.List.{AllByRecursion}
use Rattle.fv_declare_schema.specs.PlacedView.{placed_view}
use Rattle.fv_declare_schema.specs.PlaceViews.{place_view}
use Rattle.fv_local.specs.Told.{picked, IsSamePlace}
use Rattle.fv_local.proofs.uses.run_length.Given as goal

abbrev pub invariant-loop-count : goal.invariant-loop-count
invariant-loop-count l = record {
  some : 0 < l.count;
  within : l.count ≤ length l.uses;
  same : AllByRecursion (λ u. IsSamePlace u.place (place_view l.place)) (picked (map placed_view l.occurrences) (take l.count l.uses));
}

abbrev pub decreases-loop-count : goal.decreases-loop-count
decreases-loop-count l = length l.uses - l.count
