use Rattle.std.proofs.Common.{map}
use Rattle.std.proofs.lemmas.Int.{to_z-of_z}
use mir.Syntax.{w64}
use Rattle.fv_local.specs.FailureView.{failure_view}
use Rattle.fv_listing.specs.Visits.{visit_view}
use Rattle.fv_listing.proofs.Told.{local_by}
use Rattle.fv_listing.proofs.listing.local_at.Goals as goal

pub returns-clause-exact : goal.returns-clause-exact
returns-clause-exact g c =
    local_by g.R.RuleSet.meaning c.args.now c.args.course.now c.args.rulebook.now (visit_view c.args.visit.now) _ (map failure_view c.in_ok-found.found.items) c.requires.same c.object.ensures.object
    (rw (to_z-of_z w64 c.args.now c.ranges.now) at c.in_ok-found.ensures.exact)
