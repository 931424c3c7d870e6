use Rattle.std.proofs.Common.{map, take}
use Rattle.fv_listing.specs.Courses.{judging}
use Rattle.fv_listing.specs.Listed.{AreFailing}
use Rattle.fv_listing.specs.Turns.{turns_view}
use Rattle.fv_listing.specs.Visits.{visit_view}
use Rattle.fv_listing.proofs.listing.failing_turns.Given as goal

abbrev pub invariant-loop-visit : goal.invariant-loop-visit
invariant-loop-visit g l = AreFailing (judging g.R.RuleSet.meaning l.now l.course) (map visit_view (take l.visit-index l.visits)) (map turns_view l.failing.items)
