use Rattle.std.proofs.Common.{◌≢◌, arith, inl, inr, refl}
use Rattle.fv_engine_lines.specs.Writes.{Sends}
use Rattle.fv_engine_lines.specs.declared.serving.Turn.TheVariants.{End, WriteFailed}
use Rattle.fv_engine_lines.proofs.Lines.{taken_none}
use Rattle.fv_engine_lines.proofs.serving.serve_lines.Goals as goal

pub loop-turn-init : goal.loop-turn-init
loop-turn-init g c = record { reads = refl; gave = refl; taken = rw c.requires (taken_none g.P.Responder.step g.C.Clock.ticks (Sends g.W.Output.contents g.W.Output.takes g.W.Output.flushes) _ _) }

pub returns-in-Ok-clause-ok : goal.returns-in-Ok-clause-ok
returns-in-Ok-clause-ok g c =
    let other : End ≢ WriteFailed = λ e. cc in
    c.in-Ok.ensures.ok _ _ _ (c.in-End.ensures.end refl) (c.in-End.ensures.taken other _ _ c.loop-turn.invariant.taken)

pub returns-in-Ok-clause-ended : goal.returns-in-Ok-clause-ended
returns-in-Ok-clause-ended g c = (c.loop-turn._turn, c.loop-turn-test.true, _, c.loop-turn.invariant.gave, c.in-End.ensures.ended refl)

pub returns-in-ReadFailed-clause-read_cause : goal.returns-in-ReadFailed-clause-read_cause
returns-in-ReadFailed-clause-read_cause g c = λ is. inl (c.loop-turn._turn, c.loop-turn-test.true, _, c.loop-turn.invariant.gave, c.in-ReadFailed.ensures.failed refl)

pub returns-in-Err-clause-write : goal.returns-in-Err-clause-write
returns-in-Err-clause-write g c = λ is.
    let other : End ≢ WriteFailed = λ e. cc in
    c.in-Err.ensures.err _ _ _ (c.in-End.ensures.end refl) (c.in-End.ensures.taken other _ _ c.loop-turn.invariant.taken)

pub returns-in-Err-clause-write_reads : goal.returns-in-Err-clause-write_reads
returns-in-Err-clause-write_reads g c = λ is. (c.loop-turn._turn, c.loop-turn-test.true, _, c.loop-turn.invariant.gave, inr (c.in-End.ensures.ended refl))

pub returns-in-WriteFailed-clause-write_reads : goal.returns-in-WriteFailed-clause-write_reads
returns-in-WriteFailed-clause-write_reads g c = λ is. (c.loop-turn._turn, c.loop-turn-test.true, _, c.loop-turn.invariant.gave, inl (c.in-WriteFailed.ensures.gave_last refl))

pub returns-clause-read_cause : goal.returns-clause-read_cause
returns-clause-read_cause g c = λ is. inr (c.loop-turn._turn, omega (arith, c.loop-turn.auto._turn-end, c.loop-turn-test.false), c.loop-turn.invariant.gave)
