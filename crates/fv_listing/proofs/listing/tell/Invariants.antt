use Rattle.std.proofs.Common.{◌≡◌, ◌++◌, map, take}
use Rattle.fv_local.specs.FailureView as local
use Rattle.fv_walk_traces.specs.Listing.{violation_at}
use Rattle.fv_walk.specs.FailureView.{failure_view}
use Rattle.fv_listing.specs.Courses.{visiting}
use Rattle.fv_listing.specs.Visits.{visit_view}
use Rattle.fv_listing.proofs.listing.tell.Given as goal

abbrev pub invariant-loop-failure : goal.invariant-loop-failure
invariant-loop-failure g l = map failure_view l.failures.items ≡ map failure_view l.initial.failures.items
    ++ map (violation_at (visiting l.course) (visit_view l.visit).turns) (map local.failure_view (take l.failure-index l.failure-items))
