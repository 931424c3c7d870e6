use Rattle.std.proofs.Common.{◌≡◌, ◌++◌, map, take}
use Rattle.fv_local.specs.FailureView as local
use Rattle.fv_walk.specs.Courses.{visiting}
use Rattle.fv_walk.specs.FailureView.{failure_view}
use Rattle.fv_walk.specs.Stacks.{path_on}
use Rattle.fv_walk.specs.Walks.{told_at}
use Rattle.fv_walk.proofs.telling.add_failures.Given as goal

abbrev pub invariant-loop-failure : goal.invariant-loop-failure
invariant-loop-failure l =
    map failure_view l.failures.items
    ≡ map failure_view l.initial.failures.items
    ++ map (told_at (visiting l.course) (path_on (visiting l.course) l.stack) l.object) (map local.failure_view (take l.failure-index l.found))
