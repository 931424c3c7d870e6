use Rattle.std.proofs.Common.{◌≡◌, map}
use Rattle.sqlite.specs.Values.{bound}
use Rattle.fv_store_tables.specs.Changes.{found_view, objects_view}
use Rattle.fv_store_tables.specs.Updating.{filled, range_values, under_rowids}
use Rattle.fv_store_tables.proofs.updating.values_of.Given as goal

abbrev pub invariant-loop-place : goal.invariant-loop-place
invariant-loop-place l = bound l.values.items ≡ range_values l.id (filled l.place (under_rowids (map found_view l.rows) (objects_view l.objects)))
