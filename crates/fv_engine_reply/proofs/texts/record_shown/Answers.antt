use Rattle.std.proofs.Common.{◌∙◌, string_bytes, sym, subst}
use Rattle.std.proofs.lemmas.Result.{IfOk-weaker}
use Rattle.fv_engine_lines.specs.Lines.{IsOpen}
use Rattle.fv_model.specs.Writing.{bundle_json}
use Rattle.fv_engine_reply.proofs.OneLine.{in_quotes}
use Rattle.fv_engine_reply.proofs.Shown.{shown_line, shown_text}
use Rattle.fv_engine_reply.proofs.texts.record_shown.Goals as goal

pub returns-clause-text : goal.returns-clause-text
returns-clause-text c =
    IfOk-weaker c.made.result _ _
    (λ r is b bundle. is ∙ c.in_ok-text.ensures.ok ∙ shown_text c.args.id.now c.args.form.now (bundle_json b) (string_bytes c.in_ok-id.id) (string_bytes c.in_ok-form.form) c.args.bundle.now bundle c.in_ok-form.ensures c.in_ok-id.ensures)
    c.made.ensures

pub returns-clause-line : goal.returns-clause-line
returns-clause-line c =
    IfOk-weaker c.made.result _ _
    (λ r is plain. subst IsOpen (sym (is ∙ c.in_ok-text.ensures.ok))
    (shown_line (string_bytes c.in_ok-id.id) (string_bytes c.in_ok-form.form) c.args.bundle.now plain (subst IsOpen (sym c.in_ok-form.ensures) (in_quotes c.args.form.now)) (subst IsOpen (sym c.in_ok-id.ensures) (in_quotes c.args.id.now))))
    c.made.ensures
