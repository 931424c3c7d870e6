use Rattle.std.proofs.Common.{◌≡◌, ◌++◌, map}
use Rattle.fv_extract.specs.FoundView.{found_view}
use Rattle.fv_extract.specs.InsideView.{inside_left}
use Rattle.fv_extract.specs.Parts.{parts_below, further}
use Rattle.fv_extract.specs.Views.{step_view}
use Rattle.fv_extract.proofs.finding.add_inside.Given as goal

abbrev pub invariant-loop-added : goal.invariant-loop-added
invariant-loop-added l = map found_view l.found.items ++ map (parts_below (found_view l.part).0) (inside_left l.added-iterator)
    ≡ map found_view l.initial.found.items ++ further (step_view l.fn.step) (found_view l.part)
