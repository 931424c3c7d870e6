use Rattle.std.proofs.Common.{◌≡◌, map, take}
use Rattle.fv_store_tables.specs.Stands.{shown_part}
use Rattle.fv_store_tables.specs.Stored.{front, row_view}
use Rattle.fv_store_tables.proofs.entry.objects_in.Given as goal

abbrev pub invariant-loop-row : goal.invariant-loop-row
invariant-loop-row l = map front (take l.row-index l.rows) ≡ map (λ o. shown_part (row_view o)) l.objects.items
