use Rattle.std.proofs.Common.{Err, Option, refl, sym, ap, subst}
use Rattle.std.proofs.lemmas.Int.{to_z-of_z}
use mir.Syntax.{w64}
use Rattle.fv_store.specs.Stock.{stock_state as state}
use Rattle.serde_json.specs.Data as json
use Rattle.fv_datum.specs.Parsing.{json_of}
use Rattle.fv_engine_command.specs.Commands.{not_json, asks_json, of_records}
use Rattle.fv_engine_machine.specs.Services.{Replies}
use Rattle.fv_engine_reply.specs.Answers.{refused}
use Rattle.fv_engine_reply.specs.declared.answer.Refusal.TheVariants.{NotJson, Memory}
use Rattle.fv_engine_machine.proofs.Becoming.{refused_at_once}
use Rattle.fv_engine_machine.proofs.Going.{rests, weaker}
use Rattle.fv_engine_machine.proofs.Serving.{memory_refused, short_asks, told_answer}
use Rattle.fv_engine_machine.proofs.answering.reply_to_line.Goals as goal

pub returns-in-Ok : goal.returns-in-Ok
returns-in-Ok g c =
    weaker (state g.S.Store) _ _ _ _ (λ x y t. subst (λ (o : Option json.Data). Replies g.R.RuleSet.meaning c.args.now (asks_json o) x c.reply_to.result y)
    (sym c.in-Ok.ensures.read) t)
    (rw (to_z-of_z w64 c.args.now c.ranges.now) at c.reply_to.ensures)

pub returns-in-Err-NotJson : goal.returns-in-Err-NotJson
returns-in-Err-NotJson g c = rests (state g.S.Store) _ _ (λ x.
    subst (λ (o : Option json.Data). Replies g.R.RuleSet.meaning c.args.now (asks_json o) x c.refused.result x) (sym (c.in-Err-NotJson.ensures.not_json (ap (λ e. Err e) c.in-Err-NotJson.field-0-is)))
    (told_answer g.R.RuleSet.meaning c.args.now (of_records not_json) refl x x (refused NotJson) _ c.refused.ensures (refused_at_once g.R.RuleSet.meaning c.args.now not_json x.machine NotJson refl tt refl, refl, refl)))

pub returns-in-Err-Memory : goal.returns-in-Err-Memory
returns-in-Err-Memory g c = rests (state g.S.Store) _ _ (λ x.
    told_answer g.R.RuleSet.meaning c.args.now _ (short_asks (json_of c.args.line.now)) x x (refused Memory) _ c.refused-in-Err-Memory.ensures
    (memory_refused g.R.RuleSet.meaning c.args.now (asks_json (json_of c.args.line.now)) (short_asks (json_of c.args.line.now)) x))
