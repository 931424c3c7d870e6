use Rattle.std.proofs.Common.{sym, subst}
use Rattle.fv_datum.specs.Data.{Data}
use Rattle.fv_extract.specs.Parts.{parts_at}
use Rattle.fv_graph.specs.Graph.{IsIn}
use Rattle.fv_bundle.specs.Bundles.{Thing}
use Rattle.fv_local.proofs.Ways.{ways_within}
use Rattle.fv_local.specs.Graphs.{way_view}
use Rattle.fv_local.specs.Requests.{object_at}
use Rattle.fv_listing.specs.Courses.{bundle_in}
use Rattle.fv_listing.proofs.Courses.{way_there}
use Rattle.fv_listing.proofs.path.turn_to.Goals as goal

pub push_way-requires-clause-there : goal.push_way-requires-clause-there
push_way-requires-clause-there c =
    let course = c.args.course.now in
    let way = way_view c.in-Step.way.now in
    let led = rw c.in-Step.is at c.requires.led in
    subst (λ (object : Thing). (d : Data) × IsIn (parts_at object way.place) (way.locus, d)) (sym c.object.ensures.object)
    (way_there course.schema.now (bundle_in course).objects (object_at (bundle_in course) c.args.object) way led.0)

pub returns-in_ok-push_way-in-Step-clause-object : goal.returns-in_ok-push_way-in-Step-clause-object
returns-in_ok-push_way-in-Step-clause-object c =
    let course = c.args.course.now in
    let led = rw c.in-Step.is at c.requires.led in
    ways_within course.schema.now (bundle_in course).objects (object_at (bundle_in course) c.args.object) (way_view c.in-Step.way.now) led.0
