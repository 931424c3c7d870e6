use Rattle.fv_engine_lines.specs.Buffering.{Taken}
use Rattle.fv_engine_lines.specs.Reads.{Times}
use Rattle.fv_engine_lines.specs.Writes.{Sends}
use Rattle.fv_engine_lines.proofs.serving.serve_lines.Given as goal

abbrev pub invariant-loop-turn : goal.invariant-loop-turn
invariant-loop-turn g l = record {
  reads : Times g.R.Input.reads l._turn l.initial.reader l.reader;
  gave : Times g.R.Input.gives l._turn l.initial.reader l.reader;
  taken : Taken g.P.Responder.step g.C.Clock.ticks (Sends g.W.Output.contents g.W.Output.takes g.W.Output.flushes) (g.R.Input.remaining l.initial.reader) (g.R.Input.remaining l.reader) l.line
      (l.initial.responder, l.initial.clock, l.initial.writer) (l.responder, l.clock, l.writer);
}
