use Rattle.std.proofs.Common.{◌≡◌, ◌*◌, string_bytes}
use Rattle.fv_engine_pending.specs.Passes.{AreSo}
use Rattle.fv_engine_pending.proofs.Passes.{Pass}
use Rattle.fv_store.specs.Stock.{stock_state}
use Rattle.fv_engine_pending.proofs.rejudging.judge_all.Given as goal

abbrev pub invariant-loop : goal.invariant-loop
invariant-loop g l = record {
  pass : Pass (AreSo g.R.RuleSet.meaning l.book l.now) l.book (stock_state g.S.Store l.fn.store) (stock_state g.S.Store l.store) l.verdicts (string_bytes l.above) (l.counter * 1000);
  text : l.store.text ≡ l.fn.store.text;
}
