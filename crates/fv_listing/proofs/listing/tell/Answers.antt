use Rattle.std.proofs.Common.{◌≡◌, ◌++◌, List, length, map, take, ap, sym, subst, ◌∙◌, arith}
use Rattle.std.proofs.lemmas.Int.{to_z-of_z}
use mir.Syntax.{w64}
use Rattle.fv_local.specs.FailureView as local
use Rattle.fv_walk_traces.specs.Listing.{violation_at}
use Rattle.fv_walk.specs.FailureView.{failure_view}
use Rattle.fv_listing.specs.Courses.{judging, visiting}
use Rattle.fv_listing.specs.Visits.{visit_view}
use Rattle.fv_listing.proofs.Exact.{told_alike}
use Rattle.fv_listing.proofs.Told.{all_seen, tells_all}
use Rattle.fv_listing.proofs.listing.tell.Goals as goal

pub returns : goal.returns
returns g c =
    let m = g.R.RuleSet.meaning in
    let course = c.args.course.now in
    let visit = visit_view c.args.visit.now in
    let found = c.deref-failure-items.result.now in
    let told = violation_at (visiting course) visit.turns in
    let before = map failure_view c.args.failures.now.items in
    let all = ap (λ l. before ++ map told l) (all_seen local.failure_view found c.loop-failure.failure-index (omega arith) ∙ ap (map local.failure_view) c.deref-failure-items.ensures.value) in
    tells_all (judging m c.args.now course) (visiting course) visit before (map failure_view c.loop-failure.failures.items) (map local.failure_view c.in_ok-found.found.items) (told_alike m c.args.now course visit.turns)
    (rw (to_z-of_z w64 c.args.now c.ranges.now) at c.in_ok-found.ensures.exact) (c.loop-failure.invariant ∙ all)
