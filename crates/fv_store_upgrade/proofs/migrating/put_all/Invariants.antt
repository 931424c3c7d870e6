use Rattle.std.proofs.Common.{◌≡◌, take}
use Rattle.sqlite.specs.State.{KeepsCommit}
use Rattle.sqlite.specs.Held.{state}
use Rattle.fv_store_tables.specs.Stands.{Frame}
use Rattle.fv_store_tables.specs.Steps.{Advances, Inside}
use Rattle.fv_store_upgrade.specs.Steps.{Puts, news_view}
use Rattle.fv_store_upgrade.proofs.migrating.put_all.Given as goal

abbrev pub invariant-records : goal.invariant-records
invariant-records g l = record {
  same : l.tx.conn.ghost_name ≡ l.fn.tx.conn.ghost_name;
  frame : Frame (state g.S.Store l.fn.tx.conn.now) (state g.S.Store l.tx.conn.now);
  limit : l.tx.conn.now.step_limit ≡ l.fn.tx.conn.now.step_limit;
  kept : Inside g.S.Store l.fn.tx.conn.now l.tx.conn.now KeepsCommit;
  done : Inside g.S.Store l.fn.tx.conn.now l.tx.conn.now (λ old new. Advances old new (Puts (news_view (take l.record-index l.records))));
}
