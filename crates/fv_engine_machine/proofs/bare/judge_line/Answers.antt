use Rattle.std.proofs.Common.{Err, Option, refl, sym, ap, subst}
use Rattle.std.proofs.lemmas.Int.{to_z-of_z}
use mir.Syntax.{w64}
use Rattle.serde_json.specs.Data as json
use Rattle.fv_datum.specs.Parsing.{json_of}
use Rattle.fv_engine_command.specs.Commands.{not_json, asks_json, of_records}
use Rattle.fv_engine_machine.specs.Judges.{RepliesBare}
use Rattle.fv_engine_reply.specs.Answers.{refused}
use Rattle.fv_engine_reply.specs.declared.answer.Refusal.TheVariants.{NotJson}
use Rattle.fv_engine_machine.proofs.Recordless.{bare_not_json, bare_served, bare_told, bare_unread}
use Rattle.fv_engine_machine.proofs.Serving.{short_asks}
use Rattle.fv_engine_machine.proofs.bare.judge_line.Goals as goal

pub returns-in-Ok : goal.returns-in-Ok
returns-in-Ok g c =
    subst (λ (o : Option json.Data). RepliesBare (g.R.RuleSet.known c.args.rules.now) g.R.RuleSet.meaning c.args.book.now c.args.now (asks_json o) c.reply_to.result)
    (sym c.in-Ok.ensures.read) (rw (to_z-of_z w64 c.args.now c.ranges.now) at c.reply_to.ensures)

pub returns-in-Err-NotJson : goal.returns-in-Err-NotJson
returns-in-Err-NotJson g c =
    subst (λ (o : Option json.Data). RepliesBare (g.R.RuleSet.known c.args.rules.now) g.R.RuleSet.meaning c.args.book.now c.args.now (asks_json o) c.refused.result)
    (sym (c.in-Err-NotJson.ensures.not_json (ap (λ e. Err e) c.in-Err-NotJson.field-0-is)))
    (bare_told (g.R.RuleSet.known c.args.rules.now) g.R.RuleSet.meaning c.args.book.now c.args.now (of_records not_json) refl (refused NotJson) _ c.refused.ensures
    (bare_served (g.R.RuleSet.known c.args.rules.now) g.R.RuleSet.meaning c.args.book.now c.args.now not_json (refused NotJson) (bare_not_json g.R.RuleSet.meaning c.args.book.now c.args.now)))

pub returns-in-Err-Memory : goal.returns-in-Err-Memory
returns-in-Err-Memory g c = bare_unread (g.R.RuleSet.known c.args.rules.now) g.R.RuleSet.meaning c.args.book.now c.args.now _ (short_asks (json_of c.args.line.now)) _ c.refused-in-Err-Memory.ensures
