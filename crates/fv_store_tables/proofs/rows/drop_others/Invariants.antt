use Rattle.std.proofs.Common.{◌≡◌, IsTrue, take}
use Rattle.sqlite.specs.State.{HasCleanDisk, KeepsCommit}
use Rattle.sqlite.specs.Held.{state}
use Rattle.fv_store_tables.specs.Changes.{others_dropped, names_of, found_objects, objects_view}
use Rattle.fv_store_tables.specs.Stands.{Frame}
use Rattle.fv_store_tables.specs.Steps.{Advances, Anyhow, Makes}
use Rattle.fv_store_tables.proofs.rows.drop_others.Given as goal

abbrev pub invariant-there : goal.invariant-there
invariant-there g l = record {
  same : l.tx.conn.ghost_name ≡ l.fn.tx.conn.ghost_name;
  frame : Frame (state g.S.Store l.fn.tx.conn.now) (state g.S.Store l.tx.conn.now);
  limit : l.tx.conn.now.step_limit ≡ l.fn.tx.conn.now.step_limit;
  kept : HasCleanDisk (state g.S.Store l.tx.conn.now) → IsTrue (state g.S.Store l.fn.tx.conn.now).in_transaction → KeepsCommit (state g.S.Store l.fn.tx.conn.now) (state g.S.Store l.tx.conn.now);
  done : HasCleanDisk (state g.S.Store l.tx.conn.now) → IsTrue (state g.S.Store l.fn.tx.conn.now).in_transaction
      → Advances (state g.S.Store l.fn.tx.conn.now) (state g.S.Store l.tx.conn.now) (Makes 0 Anyhow (others_dropped l.id (objects_view l.objects) (names_of (found_objects (take l.row-index l.there)))));
}
