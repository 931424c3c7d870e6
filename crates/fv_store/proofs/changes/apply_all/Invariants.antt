use Rattle.std.proofs.Common.{◌≡◌, take}
use Rattle.sqlite.specs.State.{KeepsCommit}
use Rattle.sqlite.specs.Held.{state}
use Rattle.fv_store.specs.Stands.{Frame}
use Rattle.fv_store.specs.Steps.{Advances, Inside, MakesAll}
use Rattle.fv_store.proofs.changes.apply_all.Given as goal

abbrev pub invariant-changes : goal.invariant-changes
invariant-changes g l = record {
  same : l.tx.conn.ghost_name ≡ l.fn.tx.conn.ghost_name;
  frame : Frame (state g.S.Store l.fn.tx.conn.now) (state g.S.Store l.tx.conn.now);
  limit : l.tx.conn.now.step_limit ≡ l.fn.tx.conn.now.step_limit;
  kept : Inside g.S.Store l.fn.tx.conn.now l.tx.conn.now KeepsCommit;
  done : Inside g.S.Store l.fn.tx.conn.now l.tx.conn.now (λ old new. Advances old new (MakesAll (take l.change-index l.changes)));
}
