use Rattle.std.proofs.Common.{◌≡◌, drop}
use Rattle.fv_store_tables.specs.Changes.{has_name, objects_view}
use Rattle.fv_store_tables.proofs.rows.has_name.Given as goal

abbrev pub invariant-loop-object : goal.invariant-loop-object
invariant-loop-object l = has_name l.name (objects_view l.objects) ≡ has_name l.name (objects_view (drop l.object-index l.objects))
