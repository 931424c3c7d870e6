use Rattle.std.proofs.Common.{◌≡◌, true, false, map, sym, subst, ◌∙◌, arith}
use Rattle.std.proofs.lemmas.Int.{to_z-of_z}
use mir.Syntax.{w64}
use Rattle.fv_walk.specs.FailureView.{failure_view}
use Rattle.fv_listing.specs.Arrivals.{IsArrival}
use Rattle.fv_listing.specs.Courses.{judging, visiting}
use Rattle.fv_listing.specs.Turns.{turns_view}
use Rattle.fv_listing.specs.Visits.{visit_view}
use Rattle.fv_listing.specs.declared.visit.Visit.{Visit}
use Rattle.fv_listing.proofs.Told.{told_begun, told_hidden, told_open, told_next, told_done}
use Rattle.fv_listing.proofs.listing.told_of.Goals as goal
use Rattle.fv_listing.proofs.listing.told_of.Goals.{then-not-is_hidden+in_ok-tell, else-not-is_hidden}

pub tell-requires-clause-arrival : goal.tell-requires-clause-arrival
tell-requires-clause-arrival g c =
    subst (λ (v : Visit). IsArrival (visiting c.args.course.now) (visit_view v)) (sym c.visit-item.is) (c.requires.arrivals c.loop-visit.visit-index c.visit-item.result (omega arith))

pub loop-visit-init : goal.loop-visit-init
loop-visit-init g c = told_begun _ (map turns_view c.args.failing.now) c.new-failures.result.items c.new-failures.ensures.items

pub loop-visit-preserved : goal.loop-visit-preserved
loop-visit-preserved g c =
    let failing = map turns_view c.args.failing.now in
    let before = map failure_view c.loop-visit.failures.items in
    let visit = visit_view c.visit-item.result in
    elim c.if-not-is_hidden.branch [
      | then-not-is_hidden+in_ok-tell w ↦
          (let h = w.if-not-is_hidden.true in
          let none : c.is_hidden.result ≡ false = grind arith in
          rw w.failures-is
          (told_next _ c.args.visits.now c.loop-visit.visit-index failing c.visit-item.result before _ (omega arith) c.visit-item.is c.loop-visit.invariant
          (told_open _ failing visit before _ (λ hidden. (let clash : true ≡ false = sym (c.is_hidden.ensures.1 hidden) ∙ none in cc)) w.in_ok-tell.ensures)))
      | else-not-is_hidden w ↦
          (let h = w.if-not-is_hidden.false in
          let shadowed : c.is_hidden.result ≡ true = grind arith in
          rw w.failures-is
          (told_next _ c.args.visits.now c.loop-visit.visit-index failing c.visit-item.result before _ (omega arith) c.visit-item.is c.loop-visit.invariant
          (told_hidden _ failing visit before (c.is_hidden.ensures.0 shadowed))))
    ]

pub returns : goal.returns
returns g c =
    told_done (judging g.R.RuleSet.meaning c.args.now c.args.course.now) c.args.visits.now c.loop-visit.visit-index (map turns_view c.args.failing.now) (map failure_view c.loop-visit.failures.items) (omega arith)
    (rw (to_z-of_z w64 c.args.now c.ranges.now) at c.loop-visit.invariant)
