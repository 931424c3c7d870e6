use Rattle.std.proofs.Common.{◌≡◌, refl, subst}
use Rattle.fv_engine_lines.specs.Lines.{ended}
use Rattle.fv_engine_lines.specs.declared.fixed_clock.FixedClock.{FixedClock}
use Rattle.formd_words.specs.Answering.{Ends, Stands}
use Rattle.formd_words.proofs.answering.answer_at.Goals as goal

pub returns-in-Some-clause-standing : goal.returns-in-Some-clause-standing
returns-in-Some-clause-standing g c = λ given is.
    let same : c.in-Some.standing ≡ given = cc in (
      refl,
      (
        c.answer_lines-in-Some.new.clock,
        subst (λ (f : FixedClock). Ends g.P.Responder.step Stands g.W.Output.contents g.W.Output.takes g.W.Output.flushes g.W.Output.fails
            (g.I.Input.remaining c.args.reader.now) (g.I.Input.remaining c.answer_lines-in-Some.new.reader) c.answer_lines-in-Some.result
            (c.args.responder.now, f, c.args.output.now) (c.answer_lines-in-Some.new.responder, c.answer_lines-in-Some.new.clock, c.answer_lines-in-Some.new.writer)) same (record {
              ok = c.answer_lines-in-Some.ensures.ok;
              read = c.answer_lines-in-Some.ensures.read;
              write = c.answer_lines-in-Some.ensures.write;
              memory = λ none. let it = c.answer_lines-in-Some.ensures.memory none in rw (it.1, it.2, it.3) refl;
            }),
      ),
    )

pub returns-in-None-clause-broke : goal.returns-in-None-clause-broke
returns-in-None-clause-broke g c = λ is. let it = c.answer_lines.ensures.write is in (it.mid.2, ended it.last.0, it.last.4)

pub returns-in-Some-clause-broke : goal.returns-in-Some-clause-broke
returns-in-Some-clause-broke g c = λ is. let it = c.answer_lines-in-Some.ensures.write is in (it.mid.2, ended it.last.0, it.last.4)
