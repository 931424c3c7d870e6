use Rattle.std.proofs.Common.{◌≡◌, ◌++◌, map, drop}
use Rattle.std.specs.List.{flat_map}
use Rattle.fv_declare_schema.specs.PlacedView.{placed_view}
use Rattle.fv_extract.specs.FoundView.{found_view}
use Rattle.fv_extract.specs.Parts.{further}
use Rattle.fv_extract.specs.Views.{step_view, place_view}
use Rattle.fv_local.specs.Told.{picked, told_view, part_told}
use Rattle.fv_local.proofs.parts.add_all_inside.Given as goal

abbrev pub invariant-loop-part : goal.invariant-loop-part
invariant-loop-part g l =
    let us = picked (map placed_view l.judge.occurrences.now) l.judge.asked.now in
    let told = flat_map (part_told g.R.RuleSet.meaning l.judge.moment us (place_view l.fn.place)) in
    map told_view l.failures.items ++ told (flat_map (further (step_view l.fn.step)) (map found_view (drop l.part-index l.parts)))
    ≡ map told_view l.initial.failures.items ++ told (flat_map (further (step_view l.fn.step)) (map found_view l.parts))
