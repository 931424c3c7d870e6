use Rattle.std.proofs.Common.{◌≡◌, IsTrue, take}
use Rattle.sqlite.specs.State.{HasCleanDisk, KeepsCommit}
use Rattle.sqlite.specs.Held.{state}
use Rattle.fv_store_tables.specs.Changes.{all_added, found_objects, objects_view}
use Rattle.fv_store_tables.specs.Stands.{Frame}
use Rattle.fv_store_tables.specs.Steps.{Advances, AreThere, Makes}
use Rattle.fv_store_tables.proofs.rows.put_objects.Given as goal

abbrev pub invariant-objects : goal.invariant-objects
invariant-objects g l = record {
  same : l.tx.conn.ghost_name ≡ l.fn.tx.conn.ghost_name;
  frame : Frame (state g.S.Store l.fn.tx.conn.now) (state g.S.Store l.tx.conn.now);
  limit : l.tx.conn.now.step_limit ≡ l.fn.tx.conn.now.step_limit;
  kept : HasCleanDisk (state g.S.Store l.tx.conn.now) → IsTrue (state g.S.Store l.fn.tx.conn.now).in_transaction → KeepsCommit (state g.S.Store l.fn.tx.conn.now) (state g.S.Store l.tx.conn.now);
  done : HasCleanDisk (state g.S.Store l.tx.conn.now) → IsTrue (state g.S.Store l.fn.tx.conn.now).in_transaction
      → Advances (state g.S.Store l.fn.tx.conn.now) (state g.S.Store l.tx.conn.now) (Makes l.object-index (AreThere l.id (found_objects l.there) (objects_view l.objects)) (all_added l.id (objects_view (take l.object-index l.objects))));
}
