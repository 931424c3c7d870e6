use Rattle.std.proofs.Common.{◌≡◌, ◌++◌, map, drop}
use Rattle.fv_datum.specs.View.{view}
use Rattle.fv_extract.specs.Views.{part_view, place_view}
use Rattle.fv_local.specs.Told.{told_view, told_of_numbers}
use Rattle.fv_local.proofs.parts.add_numbers.Given as goal

abbrev pub invariant-loop-number : goal.invariant-loop-number
invariant-loop-number l =
    let told = told_of_numbers (place_view l.fn.place) (map part_view l.locus, view l.fn.datum) in
    map told_view l.failures.items ++ told (drop l.number-index l.numbers) ≡ map told_view l.initial.failures.items ++ told l.numbers
