use Rattle.std.proofs.Common.{◌≡◌, ◌++◌, map}
use Rattle.std.specs.List.{AllByRecursion}
use Rattle.std.specs.Vec.Iter.{into_iter_items}
use Rattle.fv_declare_schema.specs.PlacedView.{placed_view}
use Rattle.fv_path.specs.Paths.{IsPath}
use Rattle.fv_validate.specs.ViolationView.{violation_view}
use Rattle.fv_validate.specs.Listing.{made_by, IsMade}
use Rattle.fv_walk.specs.FailureView.{failure_view}
use Rattle.fv_validate.proofs.validating.violations_of.Given as goal

abbrev pub invariant-loop-failure : goal.invariant-loop-failure
invariant-loop-failure l = record {
  made : map violation_view l.violations.items ++ map (made_by (map placed_view l.occurrences) l.messages) (map failure_view (into_iter_items l.failure-iterator))
      ≡ map (made_by (map placed_view l.occurrences) l.messages) (map failure_view l.fn.failures.items);
  reports : AllByRecursion (IsMade (map placed_view l.occurrences) l.messages) (map failure_view (into_iter_items l.failure-iterator))
      → AllByRecursion (IsMade (map placed_view l.occurrences) l.messages) (map failure_view l.fn.failures.items);
  paths : AllByRecursion (λ v. IsPath v.path) (map failure_view (into_iter_items l.failure-iterator)) → AllByRecursion (λ v. IsPath v.path) (map failure_view l.fn.failures.items);
}
