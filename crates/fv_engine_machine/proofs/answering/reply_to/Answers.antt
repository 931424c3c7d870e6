use Rattle.std.proofs.Common.{◌≡◌, None, Option, Some, ℕ, List, ap, subst}
use Rattle.std.proofs.lemmas.Int.{to_z-of_z}
use Rattle.std.specs.Option.{option_map_or, unwrap_or}
use mir.Syntax.{w64}
use Rattle.fv_store.specs.Stock.{stock_state as state}
use Rattle.serde_json.specs.View.{view as json_view}
use Rattle.fv_engine_command.specs.Commands.{Asked, redeclare, of_records, command_of, shape, redeclare_of}
use Rattle.fv_engine_machine.specs.Services.{Attends, serving}
use Rattle.fv_engine_reply.specs.AnswerView.{answer_view}
use Rattle.fv_engine_machine.proofs.Going.{carried, weaker}
use Rattle.fv_engine_machine.proofs.Serving.{short_asked, told_answer}
use Rattle.fv_engine_machine.proofs.answering.reply_to.Goals as goal

pub returns-in-Some : goal.returns-in-Some
returns-in-Some g c =
    let j = json_view c.args.value.now in
    let is : Some c.in-Some.text.now ≡ redeclare_of j = rw c.in-Some.is at c.redeclare_of.ensures in
    weaker (state g.S.Store) _ (serving (state g.S.Store) (g.R.RuleSet.known c.args.rules.now) c.redeclare.new.book c.redeclare.new.store) _ _
    (λ x y t. told_answer g.R.RuleSet.meaning c.args.now _ (short_asked j) x y (answer_view c.redeclare.result) _ c.of.ensures
    (subst (λ (a : Asked). Attends g.R.RuleSet.meaning c.args.now a x (answer_view c.redeclare.result) y) (ap (λ (o : Option (List ℕ)). option_map_or redeclare o (of_records (unwrap_or (command_of j) shape))) is) t))
    (rw (to_z-of_z w64 c.args.now c.ranges.now) at c.redeclare.ensures)

pub returns-in-None : goal.returns-in-None
returns-in-None g c =
    let j = json_view c.args.value.now in
    let is : None ≡ redeclare_of j = rw c.in-None.is at c.redeclare_of.ensures in
    weaker (state g.S.Store) _ _ _ _
    (λ x y t. (t.0.0, t.0.1, subst (λ (a : Asked). Attends g.R.RuleSet.meaning c.args.now a x t.0.0 y) (ap (λ (o : Option (List ℕ)). option_map_or redeclare o (of_records (unwrap_or (command_of j) shape))) is) (t.0.2, t.1, t.2)))
    (carried (state g.S.Store) (g.R.RuleSet.known c.args.rules.now) c.args.book.now c.args.store.now _ _ c.reply.ensures.text (rw (to_z-of_z w64 c.args.now c.ranges.now) at c.reply.ensures.becomes))
