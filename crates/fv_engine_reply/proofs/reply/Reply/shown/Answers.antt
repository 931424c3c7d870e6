use Rattle.std.proofs.Common.{◌≡◌, true, false, inl, inr, sym, subst, ◌∙◌}
use Rattle.std.proofs.lemmas.Result.{IfOk-weaker}
use Rattle.json.specs.Print.{escape_byte}
use Rattle.fv_engine_lines.specs.Lines.{IsOpen}
use Rattle.fv_model.specs.Writing.{bundle_json}
use Rattle.fv_engine_reply.specs.Answers.{refused, shown}
use Rattle.fv_engine_reply.specs.Texts.{answer_json}
use Rattle.fv_engine_reply.specs.declared.answer.Refusal.TheVariants.{Memory, Store}
use Rattle.fv_engine_reply.proofs.OneLine.{is_document, one_line}
use Rattle.fv_engine_reply.proofs.Told.{made_open, made_tells}
use Rattle.fv_engine_reply.proofs.reply.Reply.shown.Goals as goal

pub returns-in-Ok-true-clause-told : goal.returns-in-Ok-true-clause-told
returns-in-Ok-true-clause-told c = λ b is reads.
    made_tells c.record_shown.result c.or_memory.result (shown c.args.id.now c.args.form.now b) tt c.or_memory.ensures
    (IfOk-weaker c.record_shown.result _ _ (λ r tells. tells b is) c.record_shown.ensures.text)

pub returns-in-Ok-true-clause-line : goal.returns-in-Ok-true-clause-line
returns-in-Ok-true-clause-line c =
    made_open c.record_shown.result c.or_memory.result c.or_memory.ensures
    (IfOk-weaker c.record_shown.result _ _ (λ r plain. plain (c.in-Ok-true.ensures.0 c.in-Ok-true.field-0-test).1) c.record_shown.ensures.line)

pub returns-in-Ok-false-clause-told : goal.returns-in-Ok-false-clause-told
returns-in-Ok-false-clause-told c = λ b is reads.
    let there = c.in-Ok-false.ensures.1 (is_document c.args.bundle.now (bundle_json b) reads, subst IsOpen (sym is) (one_line (bundle_json b))) in
    let clash : true ≡ false = sym there ∙ c.in-Ok-false.field-0-test in cc

pub returns-in-Ok-false-clause-line : goal.returns-in-Ok-false-clause-line
unfolding escape_byte
returns-in-Ok-false-clause-line c = subst IsOpen (sym c.fixed.ensures) (one_line (answer_json (refused Store)))

pub returns-in-Err-clause-line : goal.returns-in-Err-clause-line
unfolding escape_byte
returns-in-Err-clause-line c = subst IsOpen (sym c.fixed-in-Err.ensures) (one_line (answer_json (refused Memory)))

pub returns-in-Ok-true-clause-foreign : goal.returns-in-Ok-true-clause-foreign
returns-in-Ok-true-clause-foreign c = λ other.
    let there = c.in-Ok-true.ensures.0 c.in-Ok-true.field-0-test in
    absurd (other there.0 there.1)

pub returns-in-Ok-false-clause-foreign : goal.returns-in-Ok-false-clause-foreign
unfolding escape_byte
returns-in-Ok-false-clause-foreign c = λ other. inl c.fixed.ensures

pub returns-in-Err-clause-foreign : goal.returns-in-Err-clause-foreign
unfolding escape_byte
returns-in-Err-clause-foreign c = λ other. inr c.fixed-in-Err.ensures
