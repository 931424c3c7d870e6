use Rattle.std.proofs.Common.{◌≡◌, ◌++◌, map, filter, drop}
use Rattle.fv_declare_schema.specs.PlacedView.{placed_view}
use Rattle.fv_local.specs.Fields.{is_of_field}
use Rattle.fv_local.proofs.field.of_field.Given as goal

abbrev pub invariant-loop-index : goal.invariant-loop-index
invariant-loop-index l =
    let test = is_of_field (map placed_view l.occurrences) l.field in
    l.kept.items ++ filter test (drop l.index-index l.uses) ≡ filter test l.uses
