use Rattle.std.proofs.Common.{◌≡◌, map, take, string_bytes}
use Rattle.fv_engine.specs.ExportSteps.{Grows}
use Rattle.fv_engine.proofs.Exported.{Page}
use Rattle.fv_store.specs.Stock.{stock_state}
use Rattle.fv_engine.proofs.exporting.export_page.Given as goal

abbrev pub invariant-loop-id : goal.invariant-loop-id
invariant-loop-id g l = record {
  page : Page (stock_state g.S.Store l.fn.store) (stock_state g.S.Store l.store) (g.O.Output.contents l.fn.out) (g.O.Output.contents l.out) (map string_bytes (take l.id-index l.ids));
  text : l.store.text ≡ l.fn.store.text;
  grew : Grows g.O.Output.contents g.O.Output.takes l.fn.out l.out;
}
