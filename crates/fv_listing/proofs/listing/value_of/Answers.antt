use Rattle.std.proofs.Common.{◌≡◌, map, sym, subst, ◌∙◌}
use Rattle.fv_datum.specs.View.{view}
use Rattle.fv_extract.specs.Views.{place_view, part_view}
use Rattle.fv_local.specs.FailureView.{spot_view}
use Rattle.fv_local.specs.declared.failure.Spot.{Spot}
use Rattle.fv_local.proofs.Objects.{sound_at}
use Rattle.fv_local.proofs.LocatedParts.{part_there}
use Rattle.fv_local.specs.Requests.{object_at}
use Rattle.fv_walk_traces.specs.Violations.{value_at}
use Rattle.fv_listing.specs.Courses.{bundle_in, visiting}
use Rattle.fv_listing.proofs.listing.value_of.Goals as goal

pub returns-in_ok-copy-in-Part : goal.returns-in_ok-copy-in-Part
returns-in_ok-copy-in-Part c =
    let course = c.args.course.now in
    let object = object_at (bundle_in course) c.args.object in
    let found = rw c.in-Part.is at c.requires.found in
    let part = part_there object (place_view c.in-Part.field-0) (map part_view c.in-Part.field-1.items, view c.in-Part.datum.now) (sound_at course.schema.now (bundle_in course) c.requires.sound.ordered c.requires.sound.typed c.args.object) found in
    subst (λ (s : Spot). view c.in_ok-copy-in-Part.field-0 ≡ value_at (visiting course) c.args.object (spot_view s)) (sym c.in-Part.is) (c.in_ok-copy-in-Part.ensures ∙ sym part.datum)
