use Rattle.std.proofs.Common.{◌≡◌, map, drop}
use Rattle.fv_datum.proofs.Fronts.{with_front}
use Rattle.fv_datum.specs.Members.{each_some}
use Rattle.fv_store.specs.ReadRows.{read_view, row_read}
use Rattle.fv_store_tables.specs.Stored.{things_view}
use Rattle.fv_store.proofs.stored.read_rows.Given as goal

abbrev pub invariant-loop-row : goal.invariant-loop-row
invariant-loop-row l = with_front (map read_view l.read.items) (each_some row_read (things_view (drop l.row-index l.rows))) ≡ each_some row_read (things_view l.rows)
