use Rattle.std.proofs.Common.{◌≡◌, List, ◌++◌, Some, None, OnOk, sym, ap, subst, ◌∙◌}
use Rattle.fv_bundle.specs.Views.{object_view}
use Rattle.fv_path.specs.Nodes.{PathNode}
use Rattle.fv_local.specs.Graphs.{way_view}
use Rattle.fv_local.specs.Sound.{IsSound}
use Rattle.fv_walk_traces.specs.Turns.{Way}
use Rattle.fv_walk.specs.Courses.{visiting}
use Rattle.fv_walk.specs.Stacks.{way_before}
use Rattle.fv_walk.proofs.Tellings.{before_part, nodes_before, none_before}
use Rattle.fv_walk.proofs.telling.push_frame.Goals as goal

pub push_way-requires-clause-sound : goal.push_way-requires-clause-sound
push_way-requires-clause-sound c = subst IsSound (sym c.object.ensures.object) c.object.ensures.parts

pub push_way-requires-clause-there : goal.push_way-requires-clause-there
push_way-requires-clause-there c =
    let f = c.args.frame.now in
    let w = way_view c.in-Some.way.now in
    let before : way_before ((visiting c.args.course.now).ways f.object) f.next ≡ Some w = ap (λ (ws : List Way). way_before ws f.next) (sym c.ways.ensures.ways) ∙ sym c.in-Some.ensures in
    before_part c.args.course.now f (object_view c.object.result.1.now) c.object.ensures.object w before

pub returns-in-Some-clause-added : goal.returns-in-Some-clause-added
returns-in-Some-clause-added c =
    let f = c.args.frame.now in
    let w = way_view c.in-Some.way.now in
    let before : way_before ((visiting c.args.course.now).ways f.object) f.next ≡ Some w = ap (λ (ws : List Way). way_before ws f.next) (sym c.ways.ensures.ways) ∙ sym c.in-Some.ensures in
    subst (λ (ns : List PathNode). OnOk c.push_way.result (c.push_way.new.path ≡ c.args.path.now ++ ns))
    (nodes_before c.args.course.now f (object_view c.object.result.1.now) c.object.ensures.object w before)
    c.push_way.ensures.added

pub returns-in-None-clause-added : goal.returns-in-None-clause-added
returns-in-None-clause-added c =
    let f = c.args.frame.now in
    let before : way_before ((visiting c.args.course.now).ways f.object) f.next ≡ None = ap (λ (ws : List Way). way_before ws f.next) (sym c.ways.ensures.ways) ∙ sym c.in-None.ensures in
    none_before c.args.course.now f (object_view c.object.result.1.now) c.object.ensures.object c.args.path.now before
