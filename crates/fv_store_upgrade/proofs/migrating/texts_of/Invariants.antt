use Rattle.std.proofs.Common.{◌≡◌, ◌++◌, drop}
use Rattle.fv_store_tables.specs.Changes.{objects_view}
use Rattle.fv_store_upgrade.specs.Steps.{new_objects_view}
use Rattle.fv_store_upgrade.proofs.migrating.texts_of.Given as goal

abbrev pub invariant-loop-row : goal.invariant-loop-row
invariant-loop-row l = objects_view l.texts.items ++ new_objects_view (drop l.row-index l.rows) ≡ new_objects_view l.rows
