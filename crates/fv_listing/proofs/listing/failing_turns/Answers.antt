use Rattle.std.proofs.Common.{map, arith}
use Rattle.std.proofs.lemmas.Int.{to_z-of_z}
use mir.Syntax.{w64}
use Rattle.fv_listing.specs.Courses.{judging}
use Rattle.fv_listing.specs.Turns.{turns_view}
use Rattle.fv_listing.proofs.Told.{failing_begun, failing_next, failing_done}
use Rattle.fv_listing.proofs.listing.failing_turns.Goals as goal

pub loop-visit-init : goal.loop-visit-init
loop-visit-init g c = failing_begun _ c.new-failing.result.items c.new-failing.ensures.items

pub loop-visit-preserved : goal.loop-visit-preserved
loop-visit-preserved g c =
    failing_next _ c.args.visits.now c.loop-visit.visit-index c.visit-item.result (map turns_view c.loop-visit.failing.items) _ (omega arith) c.visit-item.is c.loop-visit.invariant c.in_ok-add_failing.ensures

pub returns : goal.returns
returns g c =
    failing_done (judging g.R.RuleSet.meaning c.args.now c.args.course.now) c.args.visits.now c.loop-visit.visit-index (map turns_view c.loop-visit.failing.items) (omega arith)
    (rw (to_z-of_z w64 c.args.now c.ranges.now) at c.loop-visit.invariant)
