use Rattle.std.proofs.Common.{ap, ◌∙◌}
use Rattle.std.proofs.lemmas.List.{take_all}
use Rattle.std.proofs.lemmas.List.Elements.{All-get_or}
use Rattle.fv_walk.specs.Courses.{visiting, objects_in, groups_in}
use Rattle.fv_walk.specs.Stacks.{IsGood, path_on}
use Rattle.fv_walk.proofs.Paths.{field_first}
use Rattle.fv_walk.proofs.Tellings.{path_further}
use Rattle.fv_walk.proofs.telling.path_on.Goals as goal

pub loop-frame-init : goal.loop-frame-init
loop-frame-init c = record { path = c.new-path.ensures; room = field_first c.new-path.result c.new-path.ensures }

pub push_frame-requires-clause-good : goal.push_frame-requires-clause-good
push_frame-requires-clause-good c =
    let course = c.args.course.now in
    All-get_or (IsGood (visiting course) (objects_in course) (groups_in course)) c.args.stack.now c.loop-frame.frame-index _ c.loop-frame-test.true c.requires.good

pub loop-frame-preserved : goal.loop-frame-preserved
loop-frame-preserved c = record {
  path = path_further (visiting c.args.course.now) c.args.stack.now c.loop-frame.frame-index _ c.loop-frame.path c.push_frame.new.path c.loop-frame-test.true c.loop-frame.invariant.path c.in_ok-push_frame.ensures.added;
  room = c.in_ok-push_frame.ensures.room;
}

pub returns-clause-path : goal.returns-clause-path
returns-clause-path c =
    c.loop-frame.invariant.path ∙ ap (path_on (visiting c.args.course.now)) (take_all c.loop-frame.frame-index c.args.stack.now c.loop-frame-test.false)
