use Rattle.std.proofs.Common.{◌≡◌, List, All, map, sym, ap, subst, ◌∙◌}
use Rattle.std.proofs.lemmas.Int.{to_z-of_z}
use mir.Syntax.{w64}
use Rattle.fv_walk.specs.FailureView.{failure_view}
use Rattle.fv_listing.specs.Turns.{turns_view}
use Rattle.fv_listing.specs.Visits.{visit_view}
use Rattle.fv_listing.proofs.Exact.{each_arrives, told_exactly}
use Rattle.fv_listing.proofs.listing.listed.Goals as goal

pub told_of-requires-clause-arrivals : goal.told_of-requires-clause-arrivals
told_of-requires-clause-arrivals g c = each_arrives c.args.course.now c.deref-3.result.now (ap (map visit_view) c.deref-3.ensures.value ∙ c.in_ok-visits.ensures.all)

pub returns : goal.returns
returns g c =
    let course = c.args.course.now in
    let visits = c.in_ok-visits.visits.items in
    let fail = rw (to_z-of_z w64 c.args.now c.ranges.now, c.deref.ensures.value) at c.in_ok-failing.ensures in
    let told = rw (to_z-of_z w64 c.args.now c.ranges.now, c.deref-2.ensures.value, c.deref-3.ensures.value) at c.in_ok-found.ensures in
    told_exactly g.R.RuleSet.meaning c.args.now course c.requires.sound (map visit_view visits) (map turns_view c.in_ok-failing.failing.items) c.in_ok-visits.ensures.all fail (map failure_view c.in_ok-found.found.items) told
