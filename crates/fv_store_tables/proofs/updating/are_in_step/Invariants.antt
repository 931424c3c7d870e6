use Rattle.std.proofs.Common.{drop, map, ℤ}
use Rattle.fv_store_tables.specs.Changes.{found_view, objects_view}
use Rattle.fv_store_tables.specs.Updating.{Follow}
use Rattle.fv_store_tables.proofs.updating.are_in_step.Given as goal

abbrev pub invariant-loop-at : goal.invariant-loop-at
invariant-loop-at l =
    Follow l.last (map found_view (drop l.at l.rows)) (objects_view (drop l.at l.objects)) → (n : ℤ) × Follow n (map found_view l.rows) (objects_view l.objects)
