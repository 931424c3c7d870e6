use Rattle.std.proofs.Common.{take}
use Rattle.fv_engine_lines.specs.Writes.{Breaks, Sends}
use Rattle.fv_engine_lines.proofs.Lines.{taken_more, taken_broken}
use Rattle.fv_engine_lines.proofs.serving.read_once.Goals as goal

pub returns-in-Ok-take_bytes-clause-taken : goal.returns-in-Ok-take_bytes-clause-taken
returns-in-Ok-take_bytes-clause-taken g c = λ other r start t.
    taken_more g.P.Responder.step g.C.Clock.ticks (Sends g.W.Output.contents g.W.Output.takes g.W.Output.flushes) r _ _ start _ _ (take c.in-Ok.count c.fill.new.chunk) c.args.line.now _ c.in-Ok.ensures.bytes.0 c.in-Ok-take_bytes.ensures.ok t

pub returns-in-Err-take_bytes-clause-stopped : goal.returns-in-Err-take_bytes-clause-stopped
returns-in-Err-take_bytes-clause-stopped g c = λ is r start t.
    taken_broken g.P.Responder.step g.C.Clock.ticks (Sends g.W.Output.contents g.W.Output.takes g.W.Output.flushes) (Breaks g.W.Output.contents g.W.Output.takes g.W.Output.fails) r _ _ start _ _ (take c.in-Ok.count c.fill.new.chunk) c.args.line.now c.in-Ok.ensures.bytes.0 c.in-Err-take_bytes.ensures.err t
