use Rattle.std.proofs.Common.{◌≡◌, map, take}
use Rattle.std.specs.List.{flat_map}
use Rattle.fv_extract.specs.FoundView.{found_view}
use Rattle.fv_extract.specs.Parts.{further}
use Rattle.fv_extract.specs.Views.{step_view}
use Rattle.fv_extract.proofs.finding.all_inside.Given as goal

abbrev pub invariant-loop-part : goal.invariant-loop-part
invariant-loop-part l = map found_view l.found.items
    ≡ flat_map (further (step_view l.step)) (map found_view (take l.part-index l.parts))
