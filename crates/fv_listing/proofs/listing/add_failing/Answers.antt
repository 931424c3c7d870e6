use Rattle.std.proofs.Common.{◌≡◌, true, false, List, [], ◌∷◌, ◌++◌, map, ap, subst, sym, ◌∙◌}
use Rattle.std.proofs.lemmas.Int.{to_z-of_z}
use Rattle.std.proofs.lemmas.List.{map-append}
use mir.Syntax.{w64}
use Rattle.fv_walk_traces.specs.Turns.{Turns}
use Rattle.fv_listing.specs.Courses.{judging}
use Rattle.fv_listing.specs.Listed.{AddsFailing}
use Rattle.fv_listing.specs.Turns.{turn_view, turns_view}
use Rattle.fv_listing.specs.Visits.{visit_view}
use Rattle.fv_listing.proofs.Told.{failing_more, failing_same}
use Rattle.fv_listing.proofs.listing.add_failing.Goals as goal

pub returns-then-not-branch : goal.returns-then-not-branch
returns-then-not-branch g c =
    let fails = rw (to_z-of_z w64 c.args.now c.ranges.now) at c.in_ok-fails.ensures in
    failing_same (judging g.R.RuleSet.meaning c.args.now c.args.course.now) (map turns_view c.args.failing.now.items) (visit_view c.args.visit.now)
    (λ h. (let clash : true ≡ false = sym (fails.1 h) ∙ c.if-not-branch.true in cc))

pub returns : goal.returns
returns g c =
    let request = judging g.R.RuleSet.meaning c.args.now c.args.course.now in
    let fails = rw (to_z-of_z w64 c.args.now c.ranges.now) at c.in_ok-fails.ensures in
    let visit = visit_view c.args.visit.now in
    let before = map turns_view c.args.failing.now.items in
    let same = ap (map turn_view) (c.in_ok-to_vec.ensures.items_if_clones_equal (λ x y e. e) ∙ c.deref.ensures.value) in
    let pushed = ap (map turns_view) c.in_ok-push.ensures.items ∙ map-append turns_view c.args.failing.now.items (c.in_ok-to_vec.field-0 ∷ []) ∙ ap (λ (t : Turns). before ++ t ∷ []) same in
    subst (λ (l : List Turns). AddsFailing request visit before l) (sym pushed) (failing_more request before visit (fails.0 c.if-not-branch.false))
