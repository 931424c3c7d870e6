use Rattle.fv_store.specs.Stock.{stock_state}
use Rattle.fv_engine.proofs.Lifts.{long_goes}
use Rattle.fv_engine.proofs.engine.EngineResponder.answer_long.Goals as goal

pub returns : goal.returns
returns g c = λ line long. long_goes g.R.RuleSet.meaning (stock_state g.S.Store) line _ _ c.args.self.now _ c.refuse_long.ensures.same long c.refuse_long.ensures.refused
