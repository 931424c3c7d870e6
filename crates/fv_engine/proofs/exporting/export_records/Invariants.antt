use Rattle.std.proofs.Common.{◌≡◌, ◌*◌, string_bytes}
use Rattle.fv_engine.specs.ExportSteps.{Grows}
use Rattle.fv_engine.proofs.Exported.{Pass}
use Rattle.fv_store.specs.Stock.{stock_state}
use Rattle.fv_engine.proofs.exporting.export_records.Given as goal

abbrev pub invariant-loop : goal.invariant-loop
invariant-loop g l = record {
  pass : Pass (stock_state g.S.Store l.fn.store) (stock_state g.S.Store l.store) (g.O.Output.contents l.fn.out) (g.O.Output.contents l.out) (string_bytes l.above) (l.counter * 1000);
  text : l.store.text ≡ l.fn.store.text;
  grew : Grows g.O.Output.contents g.O.Output.takes l.fn.out l.out;
}
