use Rattle.std.proofs.Common.{◌++◌, ◌+◌, ◌∙◌, [], List, ℕ, take, drop, refl, sym, ap, subst, append_assoc}
use Rattle.std.proofs.lemmas.List.{append-nil}
use Rattle.std.proofs.lemmas.Result.{err_from_is_err_and}
use Rattle.fv_engine_lines.specs.Buffering.{Buffered, Broken}
use Rattle.fv_engine_lines.specs.Lines.{ended}
use Rattle.fv_engine_lines.specs.Writes.{Breaks, Sends}
use Rattle.fv_engine_lines.proofs.Lines.{buffered_add, broken_more, open_before, open_whole, line_done, behind_line}
use Rattle.fv_engine_lines.proofs.Writes.{from_on}
use Rattle.fv_engine_lines.proofs.serving.take_bytes.Goals as goal

pub lines-init : goal.lines-init
lines-init g c = record { done = []; whole = refl; served = λ start before s. rw (append-nil before) s }

pub end_line-requires : goal.end_line-requires
end_line-requires g c = open_before c.lines.rest.now c.in-Some.end c.in-Some.ensures.0.before

pub lines-preserved : goal.lines-preserved
lines-preserved g c =
    let done = c.lines.invariant.done in
    let rest = c.lines.rest.now in
    let at = c.in-Some.end in
    record {
      done = done ++ ended (take at rest);
      whole = rw (from_on (at + 1) rest) (line_done c.args.bytes.now done rest at c.lines.invariant.whole c.in-Some.ensures.0.high c.in-Some.ensures.1);
      served = λ start before s.
          subst (λ (l : List ℕ). Buffered g.P.Responder.step g.C.Clock.ticks (Sends g.W.Output.contents g.W.Output.takes g.W.Output.flushes) start l c.end_line.new.line (c.end_line.new.responder, c.end_line.new.clock, c.end_line.new.writer)) (append_assoc before done (ended (take at rest)))
          (c.in_ok-end_line.ensures.ok start (before ++ done) (c.lines.invariant.served start before s));
    }

pub returns-clause-ok : goal.returns-clause-ok
returns-clause-ok g c = λ start before s.
    let done = c.lines.invariant.done in
    let rest = c.lines.rest.now in
    subst (λ (l : List ℕ). Buffered g.P.Responder.step g.C.Clock.ticks (Sends g.W.Output.contents g.W.Output.takes g.W.Output.flushes) start l c.add_all.new.self (c.lines.responder, c.lines.clock, c.lines.writer)) (append_assoc before done rest ∙ ap (λ (l : List ℕ). before ++ l) (sym c.lines.invariant.whole))
    (buffered_add g.P.Responder.step g.C.Clock.ticks (Sends g.W.Output.contents g.W.Output.takes g.W.Output.flushes) start _ (before ++ done) _ rest _ (open_whole rest c.in_default.ensures) c.add_all.ensures (c.lines.invariant.served start before s))

pub returns-in_err-end_line-clause-err : goal.returns-in_err-end_line-clause-err
returns-in_err-end_line-clause-err g c =
    let p = err_from_is_err_and c.from_residual.result c.from_residual.ensures.1 in
    let done = c.lines.invariant.done in
    let rest = c.lines.rest.now in
    let at = c.in-Some.end in
    rw p.1 (λ start before s.
    subst (λ (l : List ℕ). Broken g.P.Responder.step g.C.Clock.ticks (Sends g.W.Output.contents g.W.Output.takes g.W.Output.flushes) (Breaks g.W.Output.contents g.W.Output.takes g.W.Output.fails) start l (c.end_line.new.responder, c.end_line.new.clock, c.end_line.new.writer))
    (behind_line before c.args.bytes.now done (ended (take at rest)) (drop (at + 1) rest) (line_done c.args.bytes.now done rest at c.lines.invariant.whole c.in-Some.ensures.0.high c.in-Some.ensures.1))
    (broken_more g.P.Responder.step g.C.Clock.ticks (Sends g.W.Output.contents g.W.Output.takes g.W.Output.flushes) (Breaks g.W.Output.contents g.W.Output.takes g.W.Output.fails) start _ _ (drop (at + 1) rest) (c.in_err-end_line.ensures.err start (before ++ done) (c.lines.invariant.served start before s))))
