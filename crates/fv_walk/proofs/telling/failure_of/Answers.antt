use Rattle.std.proofs.Common.{List, ◌++◌, map, sym, ap, subst, ◌∙◌}
use Rattle.fv_datum.specs.View.{view}
use Rattle.fv_extract.specs.Views.{part_view, place_view}
use Rattle.fv_extract.specs.declared.place.Part.{Part}
use Rattle.fv_local.specs.FailureView.{IsFoundIn}
use Rattle.fv_bundle.specs.Bundles.{Thing}
use Rattle.fv_bundle.specs.Views.{object_view}
use Rattle.fv_local.specs.Requests.{nodes_at, object_at}
use Rattle.fv_local.specs.Sound.{IsSound}
use Rattle.fv_walk.specs.Courses.{bundle_in, visiting}
use Rattle.fv_walk.specs.Stacks.{path_on}
use Rattle.fv_walk.proofs.Tellings.{HasPart, told_part}
use Rattle.fv_walk.proofs.telling.failure_of.Goals as goal

pub push_part-requires-clause-sound : goal.push_part-requires-clause-sound
push_part-requires-clause-sound c = subst IsSound (sym c.object.ensures.object) c.object.ensures.parts

pub push_part-requires-clause-there : goal.push_part-requires-clause-there
push_part-requires-clause-there c =
    let part = c.in-Part in
    let place = place_view part.place in
    let found = subst (IsFoundIn (object_at (bundle_in c.args.course.now) c.args.object)) part.is c.requires.found in
    subst (λ (ps : List Part). HasPart (object_view c.object.result.1.now) place (map part_view ps)) (sym c.deref.ensures.value)
    (subst (λ (o : Thing). HasPart o place (map part_view part.locus.items)) (sym c.object.ensures.object) (view part.datum.now, found))

pub returns-in_ok-copy-in-Part : goal.returns-in_ok-copy-in-Part
returns-in_ok-copy-in-Part c =
    let course = c.args.course.now in
    let part = c.in-Part in
    let place = place_view part.place in
    let above = path_on (visiting course) c.args.stack.now in
    told_part course c.args.object above c.args.failure.now part.place part.locus part.datum part.is c.object.ensures.parts c.requires.found _ _
    (c.path-in-Part.view_is
    ∙ (rw (c.in_ok-path.ensures.path, c.deref.ensures.value) at c.in_ok-push_part-in-Part.ensures.added)
    ∙ ap (λ (o : Thing). above ++ nodes_at o place (map part_view part.locus.items)) c.object.ensures.object)
    c.in_ok-copy-in-Part.ensures
