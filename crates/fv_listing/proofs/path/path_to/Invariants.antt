use Rattle.std.proofs.Common.{◌≡◌, ◌<◌, [], map, drop, fold}
use Rattle.fv_walk_traces.specs.Violations.{onward}
use Rattle.fv_walk_traces.specs.Reaching.{at_object}
use Rattle.fv_walk.specs.Paths.{TakesField}
use Rattle.fv_listing.specs.Courses.{visiting, objects_in}
use Rattle.fv_listing.specs.Turns.{turn_view, IsLedFrom}
use Rattle.fv_listing.specs.Visits.{visit_view}
use Rattle.fv_listing.proofs.path.path_to.Given as goal

abbrev pub invariant-loop-turn : goal.invariant-loop-turn
invariant-loop-turn l = record {
  told : fold (onward (visiting l.course)) (at_object l.path l.object) (map turn_view (drop l.turn-index l.visit.turns.items))
      ≡ fold (onward (visiting l.course)) (at_object [] (visiting l.course).root) (visit_view l.visit).turns;
  led : IsLedFrom (visiting l.course) l.object (map turn_view (drop l.turn-index l.visit.turns.items));
  object : l.object < objects_in l.course;
  room : TakesField l.path;
}
