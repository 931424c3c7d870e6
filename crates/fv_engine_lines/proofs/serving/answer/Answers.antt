use Rattle.std.proofs.Common.{◌∙◌, rules}
use Rattle.std.proofs.lemmas.Result.{on_ok_weaker, on_err_weaker}
use Rattle.std.proofs.lemmas.Int.{to_z-of_z}
use mir.Val.{to_z, of_z, SFits}
use mir.Syntax.{w64}
use Rattle.fv_engine_lines.specs.Writes.{Breaks, Sends}
use Rattle.fv_engine_lines.proofs.Lines.{answered}
use Rattle.fv_engine_lines.proofs.serving.answer.Goals as goal

pub returns-clause-ok : goal.returns-clause-ok
returns-clause-ok g c =
    let fits : SFits w64 c.now-now.result = search rules in
    on_ok_weaker c.write_line.result (λ wrote. answered g.P.Responder.step g.C.Clock.ticks (Sends g.W.Output.contents g.W.Output.takes g.W.Output.flushes) _ _ c.args.line.now c.now-now.result (to_z w64 (of_z w64 c.now-now.result)) (g.P.Reply.Text.bytes c.reply_to-reply.result) c.as_bytes.result.now (to_z-of_z w64 c.now-now.result fits) c.now-now.ensures.moment c.now-now.ensures.ticks c.reply_to-reply.ensures (c.as_bytes.ensures.value ∙ c.line.ensures) wrote) c.write_line.ensures.ok

pub returns-clause-err : goal.returns-clause-err
returns-clause-err g c =
    let fits : SFits w64 c.now-now.result = search rules in
    on_err_weaker c.write_line.result (λ wrote. answered g.P.Responder.step g.C.Clock.ticks (Breaks g.W.Output.contents g.W.Output.takes g.W.Output.fails) _ _ c.args.line.now c.now-now.result (to_z w64 (of_z w64 c.now-now.result)) (g.P.Reply.Text.bytes c.reply_to-reply.result) c.as_bytes.result.now (to_z-of_z w64 c.now-now.result fits) c.now-now.ensures.moment c.now-now.ensures.ticks c.reply_to-reply.ensures (c.as_bytes.ensures.value ∙ c.line.ensures) wrote) c.write_line.ensures.err
