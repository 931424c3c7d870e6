use Rattle.std.proofs.lemmas.Result.{err_from_is_err_and}
use Rattle.fv_engine_lines.specs.Writes.{Breaks, Sends}
use Rattle.fv_engine_lines.proofs.Lines.{buffered_line, broken_line}
use Rattle.fv_engine_lines.proofs.serving.end_line.Goals as goal

pub returns-in_err-answer-clause-err : goal.returns-in_err-answer-clause-err
returns-in_err-answer-clause-err g c =
    let p = err_from_is_err_and c.from_residual.result c.from_residual.ensures.1 in
    rw p.1 (λ start before s. broken_line g.P.Responder.step g.C.Clock.ticks (Sends g.W.Output.contents g.W.Output.takes g.W.Output.flushes) (Breaks g.W.Output.contents g.W.Output.takes g.W.Output.fails) start _ _ before _ c.args.last.now _ c.requires c.add_all.ensures c.in_err-answer.ensures.err s)

pub returns-clause-ok : goal.returns-clause-ok
returns-clause-ok g c = λ start before s.
    rw c.clear.ensures (buffered_line g.P.Responder.step g.C.Clock.ticks (Sends g.W.Output.contents g.W.Output.takes g.W.Output.flushes) start _ _ before _ c.args.last.now _ c.requires c.add_all.ensures c.in_ok-answer.ensures.ok s)
