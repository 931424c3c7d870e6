use Rattle.fv_engine_lines.specs.Writes.{Sends}
use Rattle.fv_engine_lines.proofs.Lines.{whole_served}
use Rattle.fv_engine_lines.proofs.serving.answer_lines.Goals as goal

pub returns-in-Ok-clause-read : goal.returns-in-Ok-clause-read
returns-in-Ok-clause-read g c = λ is. whole_served g.P.Responder.step g.C.Clock.ticks (Sends g.W.Output.contents g.W.Output.takes g.W.Output.flushes) _ _ _ _ _ (c.serve_lines.ensures.read is)
