use Rattle.std.proofs.Common.{◌≡◌, take}
use Rattle.fv_walk.specs.Courses.{visiting}
use Rattle.fv_walk.specs.Paths.{TakesField}
use Rattle.fv_walk.specs.Stacks.{path_on}
use Rattle.fv_walk.proofs.telling.path_on.Given as goal

abbrev pub invariant-loop-frame : goal.invariant-loop-frame
invariant-loop-frame l = record {
  path : l.path ≡ path_on (visiting l.course) (take l.frame-index l.stack);
  room : TakesField l.path;
}
