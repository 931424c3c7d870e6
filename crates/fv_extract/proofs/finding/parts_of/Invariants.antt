use Rattle.std.proofs.Common.{◌≡◌, map, take}
use Rattle.fv_datum.specs.View.{view}
use Rattle.fv_extract.specs.FoundView.{found_view}
use Rattle.fv_extract.specs.Parts.{parts_of}
use Rattle.fv_extract.specs.Views.{step_view}
use Rattle.fv_extract.proofs.finding.parts_of.Given as goal

abbrev pub invariant-loop-step : goal.invariant-loop-step
invariant-loop-step l = map found_view l.found.items ≡ parts_of (map step_view (take l.step-index l.steps)) (view l.datum)
