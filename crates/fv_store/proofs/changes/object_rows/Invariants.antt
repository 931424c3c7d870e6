use Rattle.std.proofs.Common.{◌≡◌, ◌++◌}
use Rattle.fv_store.proofs.Apart.{rows_of}
use Rattle.fv_store.proofs.changes.object_rows.Given as goal
use Rattle.fv_store_tables.specs.Changes.{objects_view}

abbrev pub invariant-loop-name : goal.invariant-loop-name
invariant-loop-name l = objects_view l.rows.items ++ rows_of l.name-iterator ≡ rows_of l.bundle.objects.entries
