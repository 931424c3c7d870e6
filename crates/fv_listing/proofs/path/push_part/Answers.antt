use Rattle.std.proofs.Common.{map, sym}
use Rattle.fv_datum.specs.View.{view}
use Rattle.fv_extract.specs.Places.{FieldPlace}
use Rattle.fv_extract.specs.Views.{part_view, step_view}
use Rattle.fv_bundle.specs.Views.{object_view}
use Rattle.fv_listing.proofs.Parted.{named_there}
use Rattle.fv_listing.proofs.path.push_part.Goals as goal

pub push_spot-requires-clause-named : goal.push_spot-requires-clause-named
push_spot-requires-clause-named c =
    let place : FieldPlace = record { field = c.args.field; steps = map step_view c.args.steps.now } in
    (named_there (object_view c.args.object.now) place (map part_view c.args.locus.now) c.requires.there.0 (c.in-Some.name.now, view c.in-Some.field-0-1.now) c.requires.sound c.requires.there.1 (sym c.in-Some.ensures)).named

pub push_spot-requires-clause-leads : goal.push_spot-requires-clause-leads
push_spot-requires-clause-leads c =
    let place : FieldPlace = record { field = c.args.field; steps = map step_view c.args.steps.now } in
    (named_there (object_view c.args.object.now) place (map part_view c.args.locus.now) c.requires.there.0 (c.in-Some.name.now, view c.in-Some.field-0-1.now) c.requires.sound c.requires.there.1 (sym c.in-Some.ensures)).led

pub push_spot-requires-clause-room : goal.push_spot-requires-clause-room
push_spot-requires-clause-room c =
    let place : FieldPlace = record { field = c.args.field; steps = map step_view c.args.steps.now } in
    c.requires.room c.in-Some.name.now
    (named_there (object_view c.args.object.now) place (map part_view c.args.locus.now) c.requires.there.0 (c.in-Some.name.now, view c.in-Some.field-0-1.now) c.requires.sound c.requires.there.1 (sym c.in-Some.ensures)).named
