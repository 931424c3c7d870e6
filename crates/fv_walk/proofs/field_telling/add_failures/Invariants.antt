use Rattle.std.proofs.Common.{◌≡◌, ◌++◌, map, take}
use Rattle.fv_local.specs.FailureView as local
use Rattle.fv_bundle.specs.Views.{object_view}
use Rattle.fv_walk.specs.FailureView.{failure_view}
use Rattle.fv_walk.specs.Ranks.{violation_in}
use Rattle.fv_walk.proofs.field_telling.add_failures.Given as goal

abbrev pub invariant-loop-failure : goal.invariant-loop-failure
invariant-loop-failure l =
    map failure_view l.failures.items ≡ map failure_view l.initial.failures.items ++ map (violation_in (object_view l.object)) (map local.failure_view (take l.failure-index l.found))
