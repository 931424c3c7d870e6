use Rattle.std.proofs.Common.{◌≡◌, ◌≤◌, ◌-◌, IsTrue, length, take}
use Rattle.sqlite.specs.State.{HasCleanDisk, KeepsCommit}
use Rattle.sqlite.specs.Held.{state}
use Rattle.fv_store_tables.specs.Changes.{all_added, objects_view, IsFree}
use Rattle.fv_store_tables.specs.Stands.{Frame}
use Rattle.fv_store_tables.specs.Steps.{Advances, Makes}
use Rattle.fv_store_tables.proofs.inserting.insert_objects.Given as goal

abbrev pub invariant-runs : goal.invariant-runs
invariant-runs g l = record {
  same : l.tx.conn.ghost_name ≡ l.fn.tx.conn.ghost_name;
  frame : Frame (state g.S.Store l.fn.tx.conn.now) (state g.S.Store l.tx.conn.now);
  limit : l.tx.conn.now.step_limit ≡ l.fn.tx.conn.now.step_limit;
  within : l.done ≤ length l.objects;
  kept : HasCleanDisk (state g.S.Store l.tx.conn.now) → IsTrue (state g.S.Store l.fn.tx.conn.now).in_transaction → KeepsCommit (state g.S.Store l.fn.tx.conn.now) (state g.S.Store l.tx.conn.now);
  done : HasCleanDisk (state g.S.Store l.tx.conn.now) → IsTrue (state g.S.Store l.fn.tx.conn.now).in_transaction
      → Advances (state g.S.Store l.fn.tx.conn.now) (state g.S.Store l.tx.conn.now) (Makes (length (take l.done l.objects)) (IsFree l.id (objects_view l.objects)) (all_added l.id (objects_view (take l.done l.objects))));
}

abbrev pub decreases-runs : goal.decreases-runs
decreases-runs g l = length l.objects - l.done
