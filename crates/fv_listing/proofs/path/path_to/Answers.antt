use Rattle.std.proofs.Common.{◌≡◌, ◌≤◌, ℕ, List, [], map, length, sym, ap, ap₂, subst, ◌∙◌, fold}
use Rattle.std.proofs.Math.ListN.{drop_of_length-le}
use Rattle.fv_path.specs.Nodes.{PathNode}
use Rattle.fv_walk_traces.specs.Violations.{onward}
use Rattle.fv_walk_traces.specs.Reaching.{at_object}
use Rattle.fv_walk.proofs.Paths.{field_first}
use Rattle.fv_listing.specs.Courses.{visiting}
use Rattle.fv_listing.specs.Turns.{turn_view, IsLedFrom}
use Rattle.fv_listing.specs.Visits.{visit_view}
use Rattle.fv_listing.proofs.Leading.{arrival_led, path_is}
use Rattle.fv_listing.proofs.path.path_to.Goals as goal

pub loop-turn-init : goal.loop-turn-init
loop-turn-init c =
    let request = visiting c.args.course.now in
    let visit = visit_view c.args.visit.now in
    let graph = c.requires.sound.graph in record {
      told = ap₂ (λ (path : List PathNode) (object : ℕ). fold (onward request) (at_object path object) visit.turns) c.new-path.ensures graph.root;
      led = subst (λ (object : ℕ). IsLedFrom request object visit.turns) (sym graph.root) (arrival_led request visit c.requires.arrival);
      object = graph.rooted;
      room = field_first c.new-path.result c.new-path.ensures;
    }

pub returns-clause-path : goal.returns-clause-path
returns-clause-path c =
    let request = visiting c.args.course.now in
    let visit = c.args.visit.now in
    let past = subst (λ l. length l ≤ c.loop-turn.turn-index) c.deref-turn-items.ensures.value c.loop-turn-test.false in
    let none = ap (λ l. fold (onward request) (at_object c.loop-turn.path c.loop-turn.object) (map turn_view l)) (drop_of_length-le visit.turns.items past) in
    path_is request (visit_view visit) c.loop-turn.path c.loop-turn.object c.requires.arrival (sym none ∙ c.loop-turn.invariant.told)
