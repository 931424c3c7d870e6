use Rattle.std.proofs.Common.{◌≡◌, ◌++◌, map}
use Rattle.std.specs.List.{flat_map}
use Rattle.fv_declare_schema.specs.PlacedView.{placed_view}
use Rattle.fv_extract.specs.FoundView.{found_view}
use Rattle.fv_extract.specs.InsideView.{inside_left}
use Rattle.fv_extract.specs.Parts.{parts_below, further}
use Rattle.fv_extract.specs.Views.{step_view, place_view}
use Rattle.fv_local.specs.Told.{picked, told_view, part_told}
use Rattle.fv_local.proofs.parts.add_inside.Given as goal

abbrev pub invariant-loop-inner : goal.invariant-loop-inner
invariant-loop-inner g l =
    let us = picked (map placed_view l.judge.occurrences.now) l.judge.asked.now in
    let told = flat_map (part_told g.R.RuleSet.meaning l.judge.moment us (place_view l.fn.place)) in
    map told_view l.failures.items ++ told (map (parts_below (found_view l.part).0) (inside_left l.inner-iterator))
    ≡ map told_view l.initial.failures.items ++ told (further (step_view l.fn.step) (found_view l.part))
