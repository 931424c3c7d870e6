use Rattle.std.proofs.lemmas.Result.{on_ok_weaker}
use Rattle.fv_engine_lines.specs.Lines.{ended}
use Rattle.fv_engine_lines.specs.Writes.{Breaks, Sends}
use Rattle.fv_store.specs.Stock.{stock_state as state}
use Rattle.fv_engine.proofs.Lifts.{weaker, served_lifted, stopped_lifted, served_turned, stopped_turned}
use Rattle.fv_engine.proofs.serving.serve.Goals as goal

pub returns-clause-causes : goal.returns-clause-causes
returns-clause-causes g c = on_ok_weaker c.answer_lines.result
    (λ all. served_lifted g.R.RuleSet.meaning (state g.S.Store) g.C.Clock.ticks (Sends g.O.Output.contents g.O.Output.takes g.O.Output.flushes) c.args.engine.now _ c.args.clock.now _ _ _ _ all) c.answer_lines.ensures.ok

pub returns-clause-read_causes : goal.returns-clause-read_causes
returns-clause-read_causes g c = λ is. served_lifted g.R.RuleSet.meaning (state g.S.Store) g.C.Clock.ticks (Sends g.O.Output.contents g.O.Output.takes g.O.Output.flushes) c.args.engine.now _ c.args.clock.now _ _ _ _ (c.answer_lines.ensures.read is)

pub returns-clause-write_causes : goal.returns-clause-write_causes
returns-clause-write_causes g c = λ is. stopped_lifted g.R.RuleSet.meaning (state g.S.Store) g.C.Clock.ticks (Sends g.O.Output.contents g.O.Output.takes g.O.Output.flushes) c.args.engine.now _ c.args.clock.now _ _ _ (Breaks g.O.Output.contents g.O.Output.takes g.O.Output.fails) _ _ (c.answer_lines.ensures.write is)

pub returns-clause-ok : goal.returns-clause-ok
returns-clause-ok g c = on_ok_weaker c.answer_lines.result
    (λ all. weaker (state g.S.Store) _ _ _ _ (λ x y run. served_turned g.R.RuleSet.meaning g.C.Clock.ticks (Sends g.O.Output.contents g.O.Output.takes g.O.Output.flushes) x y _ _ _ _ _ run) all) (returns-clause-causes g c)

pub returns-clause-read : goal.returns-clause-read
returns-clause-read g c = λ is. weaker (state g.S.Store) _ _ _ _ (λ x y run. served_turned g.R.RuleSet.meaning g.C.Clock.ticks (Sends g.O.Output.contents g.O.Output.takes g.O.Output.flushes) x y _ _ _ _ _ run) (returns-clause-read_causes g c is)

pub returns-clause-write : goal.returns-clause-write
returns-clause-write g c = λ is. weaker (state g.S.Store) _ _ _ _ (λ x y run. stopped_turned g.R.RuleSet.meaning g.C.Clock.ticks (Sends g.O.Output.contents g.O.Output.takes g.O.Output.flushes) x y _ _ _ _ (Breaks g.O.Output.contents g.O.Output.takes g.O.Output.fails) _ _ run) (returns-clause-write_causes g c is)

pub returns-clause-write_cause : goal.returns-clause-write_cause
returns-clause-write_cause g c = λ is.
    let it = c.answer_lines.ensures.write is in
    (it.mid.2, ended it.last.0, it.last.4)
