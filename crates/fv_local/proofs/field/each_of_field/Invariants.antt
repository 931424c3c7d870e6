use Rattle.std.proofs.Common.{◌≡◌, ◌++◌, map, filter, drop}
use Rattle.fv_declare_schema.specs.PlacedView.{placed_view}
use Rattle.fv_local.specs.Fields.{is_of_field}
use Rattle.fv_local.specs.TableView.{lists_view}
use Rattle.fv_local.proofs.field.each_of_field.Given as goal

abbrev pub invariant-loop-uses : goal.invariant-loop-uses
invariant-loop-uses l =
    let test = is_of_field (map placed_view l.occurrences) l.field in
    lists_view l.kept.items ++ map (filter test) (lists_view (drop l.uses-index l.lists)) ≡ map (filter test) (lists_view l.lists)
