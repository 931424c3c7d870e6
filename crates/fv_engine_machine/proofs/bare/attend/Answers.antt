use Rattle.std.proofs.Common.{◌≡◌, None, Option, Some, ℕ, List, ap, subst}
use Rattle.std.proofs.lemmas.Int.{to_z-of_z}
use mir.Syntax.{w64}
use Rattle.std.specs.Option.{option_map_or, unwrap_or}
use Rattle.serde_json.specs.View.{view as json_view}
use Rattle.fv_engine_command.specs.Commands.{Asked, redeclare, of_records, command_of, shape, redeclare_of}
use Rattle.fv_engine_machine.specs.Judges.{AnswersBare}
use Rattle.fv_engine_machine.proofs.Recordless.{bare_served}
use Rattle.fv_engine_reply.specs.AnswerView.{answer_view}
use Rattle.fv_engine_machine.proofs.bare.attend.Goals as goal

pub returns-in-Some : goal.returns-in-Some
returns-in-Some g c =
    let j = json_view c.args.value.now in
    let is : Some c.in-Some.text.now ≡ redeclare_of j = rw c.in-Some.is at c.redeclare_of.ensures in
    subst (λ (a : Asked). AnswersBare (g.R.RuleSet.known c.args.rules.now) g.R.RuleSet.meaning c.args.book.now c.args.now a (answer_view c.judge_declarations.result))
    (ap (λ (o : Option (List ℕ)). option_map_or redeclare o (of_records (unwrap_or (command_of j) shape))) is) (c.judge_declarations.ensures g.R.RuleSet.meaning c.args.book.now c.args.now)

pub returns-in-None : goal.returns-in-None
returns-in-None g c =
    let j = json_view c.args.value.now in
    let is : None ≡ redeclare_of j = rw c.in-None.is at c.redeclare_of.ensures in
    subst (λ (a : Asked). AnswersBare (g.R.RuleSet.known c.args.rules.now) g.R.RuleSet.meaning c.args.book.now c.args.now a (answer_view c.answer.result))
    (ap (λ (o : Option (List ℕ)). option_map_or redeclare o (of_records (unwrap_or (command_of j) shape))) is)
    (bare_served (g.R.RuleSet.known c.args.rules.now) g.R.RuleSet.meaning c.args.book.now c.args.now _ _ (rw (to_z-of_z w64 c.args.now c.ranges.now) at c.answer.ensures))
