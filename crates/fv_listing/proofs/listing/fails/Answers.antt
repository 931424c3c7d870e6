use Rattle.std.specs.Vec.{vec_len}
use Rattle.std.proofs.lemmas.Int.{to_z-of_z}
use mir.Syntax.{w64}
use Rattle.fv_listing.specs.Courses.{judging}
use Rattle.fv_listing.specs.Visits.{visit_view}
use Rattle.fv_listing.proofs.Told.{fails_if}
use Rattle.fv_listing.proofs.listing.fails.Goals as goal

pub returns : goal.returns
returns g c =
    let found = c.in_ok-local_at.field-0 in
    fails_if (judging g.R.RuleSet.meaning c.args.now c.args.course.now) (visit_view c.args.visit.now) found.items (vec_len found) c.is_empty.result
    (rw (to_z-of_z w64 c.args.now c.ranges.now) at c.in_ok-local_at.ensures.exact) found.ok.0 c.is_empty.ensures
