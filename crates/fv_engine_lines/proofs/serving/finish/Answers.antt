use Rattle.std.proofs.Common.{◌≡◌, [], arith}
use Rattle.std.proofs.lemmas.Grind.{common_steps}
use Rattle.std.proofs.lemmas.Result.{on_ok_weaker, on_err_weaker}
use Rattle.fv_engine_lines.specs.Writes.{Breaks, Sends}
use Rattle.fv_engine_lines.proofs.Lines.{all_served, last_served, last_stopped}
use Rattle.fv_engine_lines.proofs.serving.finish.Goals as goal

pub returns-then-is_empty-clause-ok : goal.returns-then-is_empty-clause-ok
returns-then-is_empty-clause-ok g c = λ r q start end t.
    let none : c.args.line.now ≡ [] = grind (arith, common_steps, c.bytes.ensures, c.if-is_empty.ensures) in
    all_served g.P.Responder.step g.C.Clock.ticks (Sends g.W.Output.contents g.W.Output.takes g.W.Output.flushes) r q start _ c.args.line.now end none t

pub returns-clause-ok : goal.returns-clause-ok
returns-clause-ok g c =
    let some : c.args.line.now ≡ [] → ⊥ = λ e. grind (arith, common_steps, c.bytes.ensures, c.if-is_empty.ensures) in
    on_ok_weaker c.answer.result (λ f r q start end t. last_served g.P.Responder.step g.C.Clock.ticks (Sends g.W.Output.contents g.W.Output.takes g.W.Output.flushes) r q start _ _ c.args.line.now end some t (f t.served.rest t.served.keeps)) c.answer.ensures.ok

pub returns-clause-err : goal.returns-clause-err
returns-clause-err g c =
    let some : c.args.line.now ≡ [] → ⊥ = λ e. grind (arith, common_steps, c.bytes.ensures, c.if-is_empty.ensures) in
    on_err_weaker c.answer.result (λ f r q start end t. last_stopped g.P.Responder.step g.C.Clock.ticks (Sends g.W.Output.contents g.W.Output.takes g.W.Output.flushes) (Breaks g.W.Output.contents g.W.Output.takes g.W.Output.fails) r q start _ _ c.args.line.now end some t (f t.served.rest t.served.keeps)) c.answer.ensures.err
