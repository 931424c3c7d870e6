use Rattle.std.proofs.Common.{map, take}
use Rattle.fv_walk.specs.FailureView.{failure_view}
use Rattle.fv_listing.specs.Courses.{judging}
use Rattle.fv_listing.specs.Listed.{AreTold}
use Rattle.fv_listing.specs.Turns.{turns_view}
use Rattle.fv_listing.specs.Visits.{visit_view}
use Rattle.fv_listing.proofs.listing.told_of.Given as goal

abbrev pub invariant-loop-visit : goal.invariant-loop-visit
invariant-loop-visit g l = AreTold (judging g.R.RuleSet.meaning l.now l.course) (map turns_view l.failing) (map visit_view (take l.visit-index l.visits)) (map failure_view l.failures.items)
