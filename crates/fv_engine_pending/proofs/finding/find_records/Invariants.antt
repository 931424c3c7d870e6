use Rattle.std.proofs.Common.{◌≡◌, ◌≤◌, IsTrue, map, length, take}
use Rattle.std.specs.List.{AllByRecursion, list_any}
use Rattle.sqlite.specs.State.{HasCleanDisk}
use Rattle.fv_engine_command.specs.CommandView.{part_view}
use Rattle.fv_engine_pending.specs.Fits.{Agrees, AreNeeded, AreTyped, Covers}
use Rattle.fv_engine_pending.specs.Touched.{needs_record, count_needed}
use Rattle.fv_engine_pending.specs.Ways.{pending_view}
use Rattle.fv_store.specs.Records.{Contents}
use Rattle.fv_store.specs.Stands.{Frame, HoldsRecords, IsLive, Stays}
use Rattle.fv_store.specs.Stock.{stock_state as state}
use Rattle.fv_bundle.specs.TypesView.{types_view}
use Rattle.fv_engine_pending.proofs.finding.find_records.Given as goal

abbrev pub invariant-loop-part : goal.invariant-loop-part
invariant-loop-part g l = record {
  frame : Frame (state g.S.Store l.fn.store) (state g.S.Store l.store);
  text : l.store.text ≡ l.fn.store.text;
  found : HasCleanDisk (state g.S.Store l.store) → (c : Contents) → c.types ≡ types_view l.types → HoldsRecords (state g.S.Store l.fn.store) c → Agrees (pending_view l.pending) c.records;
  covers : AllByRecursion (Covers (pending_view l.pending)) (map part_view (take l.part-index l.parts));
  needed : AreNeeded (map part_view (take l.part-index l.parts)) (pending_view l.pending);
  typed : AreTyped (types_view l.types) (pending_view l.pending);
  live : IsTrue (list_any needs_record (map part_view (take l.part-index l.parts))) → IsLive (state g.S.Store l.store);
  count : length (pending_view l.pending) ≤ count_needed (map part_view (take l.part-index l.parts));
  stays : (c : Contents) → HoldsRecords (state g.S.Store l.fn.store) c → HoldsRecords (state g.S.Store l.store) c;
  untouched : (c : Contents) → HoldsRecords (state g.S.Store l.fn.store) c → Stays (state g.S.Store l.fn.store) (state g.S.Store l.store);
  same : HasCleanDisk (state g.S.Store l.store) → (c : Contents) → HoldsRecords (state g.S.Store l.fn.store) c → (state g.S.Store l.store).now ≡ (state g.S.Store l.fn.store).now;
}
