use Rattle.std.proofs.Common.{◌≡◌, map, take, string_bytes}
use Rattle.fv_engine_pending.specs.Passes.{AreSo}
use Rattle.fv_engine_pending.proofs.Passes.{Page}
use Rattle.fv_store.specs.Stock.{stock_state}
use Rattle.fv_engine_pending.proofs.rejudging.judge_page.Given as goal

abbrev pub invariant-loop-id : goal.invariant-loop-id
invariant-loop-id g l = record {
  page : Page (AreSo g.R.RuleSet.meaning l.book l.now) l.book (stock_state g.S.Store l.fn.store) (stock_state g.S.Store l.store) l.fn.verdicts l.verdicts (map string_bytes (take l.id-index l.ids));
  text : l.store.text ≡ l.fn.store.text;
}
