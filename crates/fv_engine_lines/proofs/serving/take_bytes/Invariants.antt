use Rattle.std.proofs.Common.{◌≡◌, ℕ, List, ◌++◌, length}
use Rattle.fv_engine_lines.specs.Buffering.{Buffered}
use Rattle.fv_engine_lines.specs.Runs.{Session}
use Rattle.fv_engine_lines.specs.Writes.{Sends}
use Rattle.fv_engine_lines.proofs.serving.take_bytes.Given as goal

-- what was served before these bytes is served with those that are done
abbrev pub invariant-lines : goal.invariant-lines
invariant-lines g l = record {
  done : List ℕ;
  whole : l.bytes ≡ done ++ l.rest;
  served : (start : Session g.row.P.Denot g.row.C.Denot g.row.W.Denot) (before : List ℕ)
      → Buffered g.P.Responder.step g.C.Clock.ticks (Sends g.W.Output.contents g.W.Output.takes g.W.Output.flushes) start before l.initial.line (l.initial.responder, l.initial.clock, l.initial.writer)
      → Buffered g.P.Responder.step g.C.Clock.ticks (Sends g.W.Output.contents g.W.Output.takes g.W.Output.flushes) start (before ++ done) l.line (l.responder, l.clock, l.writer);
}

abbrev pub decreases-lines : goal.decreases-lines
decreases-lines g l = length l.rest
