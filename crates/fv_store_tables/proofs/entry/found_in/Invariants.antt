use Rattle.std.proofs.Common.{◌≡◌, map, take}
use Rattle.fv_store_tables.specs.Changes.{found_view}
use Rattle.fv_store_tables.specs.Stands.{shown_row}
use Rattle.fv_store_tables.specs.Stored.{front_four}
use Rattle.fv_store_tables.proofs.entry.found_in.Given as goal

abbrev pub invariant-loop-row : goal.invariant-loop-row
invariant-loop-row l = map front_four (take l.row-index l.rows) ≡ map (λ r. shown_row (found_view r)) l.found.items
