use Rattle.std.proofs.Common.{◌≡◌, drop}
use Rattle.fv_store_tables.specs.Changes.{has_name, found_objects}
use Rattle.fv_store_tables.proofs.rows.row_named.Given as goal

abbrev pub invariant-loop-row : goal.invariant-loop-row
invariant-loop-row l = has_name l.name (found_objects l.rows) ≡ has_name l.name (found_objects (drop l.row-index l.rows))
