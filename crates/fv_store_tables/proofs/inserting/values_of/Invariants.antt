use Rattle.std.proofs.Common.{◌≡◌, take}
use Rattle.sqlite.specs.Values.{bound}
use Rattle.fv_store_tables.specs.Changes.{objects_view}
use Rattle.fv_store_tables.specs.Inserting.{row_values}
use Rattle.fv_store_tables.proofs.inserting.values_of.Given as goal

abbrev pub invariant-loop-object : goal.invariant-loop-object
invariant-loop-object l = bound l.values.items ≡ row_values l.id (objects_view (take l.object-index l.objects))
