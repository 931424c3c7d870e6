use Rattle.std.proofs.Common.{◌≡◌, Option, None, refl, sym, subst, ◌∙◌, ap}
use Rattle.std.proofs.lemmas.Int.{to_z-of_z}
use Rattle.std.specs.Option.{unwrap_or}
use mir.Syntax.{w64}
use Rattle.fv_store.specs.Stock.{stock_state as state}
use Rattle.serde_json.specs.View.{view as json_view}
use Rattle.fv_declare_schema.specs.Declarations.{Declarations}
use Rattle.fv_engine_command.specs.Commands.{Request, shape, command_of}
use Rattle.fv_engine_machine.specs.Causes.{IsReplied}
use Rattle.fv_engine_reply.specs.Answers.{refused}
use Rattle.fv_engine_reply.specs.declared.answer.Refusal.TheVariants.{Shape, Memory}
use Rattle.fv_engine_machine.proofs.Becoming.{rests, unmoved, stays_itself, out_of_memory, refused_at_once, short_command, asked_reply, replied, told_reply}
use Rattle.fv_engine_machine.proofs.answering.reply.Goals as goal

pub returns-in-Err-clause-becomes : goal.returns-in-Err-clause-becomes
returns-in-Err-clause-becomes g c =
    let short = short_command (json_view c.args.value.now) in
    rests (state g.S.Store) _ _ (λ x. told_reply g.R.RuleSet.meaning c.args.now _ short x x (refused Memory) _ c.refused.ensures (out_of_memory g.R.RuleSet.meaning c.args.now _ x x (stays_itself x) short))

pub returns-in-Ok-None-clause-becomes : goal.returns-in-Ok-None-clause-becomes
returns-in-Ok-None-clause-becomes g c =
    let none : None ≡ command_of (json_view c.args.value.now) = rw c.in-Ok-None.field-0-is at c.in-Ok-None.ensures in
    rests (state g.S.Store) _ _ (λ x. subst (λ (o : Option Request). IsReplied g.R.RuleSet.meaning c.args.now (unwrap_or o shape) x c.refused-in-Ok-None.result x) none
    (told_reply g.R.RuleSet.meaning c.args.now shape refl x x (refused Shape) _ c.refused-in-Ok-None.ensures (refused_at_once g.R.RuleSet.meaning c.args.now shape x Shape refl tt refl)))

pub returns-in-Ok-Some-Alone-clause-becomes : goal.returns-in-Ok-Some-Alone-clause-becomes
returns-in-Ok-Some-Alone-clause-becomes g c = replied (state g.S.Store) _ _ g.R.RuleSet.meaning c.args.now (json_view c.args.value.now) _ (rw (c.in-Ok-Some-Alone.field-0-is, c.in-Ok-Some-Alone.field-0-0-is) at c.in-Ok-Some-Alone.ensures) _ _ c.of.ensures
    (rw (to_z-of_z w64 c.args.now c.ranges.now) at c.alone.ensures.becomes)

pub returns-in-Ok-Some-Batch-clause-becomes : goal.returns-in-Ok-Some-Batch-clause-becomes
returns-in-Ok-Some-Batch-clause-becomes g c = replied (state g.S.Store) _ _ g.R.RuleSet.meaning c.args.now (json_view c.args.value.now) _ (rw (c.in-Ok-Some-Batch.field-0-is, c.in-Ok-Some-Batch.field-0-0-is) at c.in-Ok-Some-Batch.ensures) _ _ c.of-in-Ok-Some-Batch.ensures
    (rw (c.deref.ensures.value, to_z-of_z w64 c.args.now c.ranges.now) at c.batch.ensures.becomes)

pub returns-in-Ok-Some-Get-clause-becomes : goal.returns-in-Ok-Some-Get-clause-becomes
returns-in-Ok-Some-Get-clause-becomes g c = asked_reply (state g.S.Store) _ _ g.R.RuleSet.meaning c.args.now _ _ _ (rw (c.in-Ok-Some-Get.field-0-is, c.in-Ok-Some-Get.field-0-0-is) at c.in-Ok-Some-Get.ensures)
    (c.get.ensures.becomes c.args.book.now g.R.RuleSet.meaning c.args.now (sym (c.types.ensures ∙ ap (λ (ds : Declarations). ds.types) c.schema.ensures)))

pub returns-in-Ok-Some-Check-clause-becomes : goal.returns-in-Ok-Some-Check-clause-becomes
returns-in-Ok-Some-Check-clause-becomes g c = replied (state g.S.Store) _ _ g.R.RuleSet.meaning c.args.now (json_view c.args.value.now) _ (rw (c.in-Ok-Some-Check.field-0-is, c.in-Ok-Some-Check.field-0-0-is) at c.in-Ok-Some-Check.ensures) _ _ c.of-in-Ok-Some-Check.ensures
    (rw (c.deref-in-Ok-Some-Check.ensures.value, to_z-of_z w64 c.args.now c.ranges.now) at c.check.ensures.becomes)

pub returns-in-Ok-Some-CheckField-clause-becomes : goal.returns-in-Ok-Some-CheckField-clause-becomes
returns-in-Ok-Some-CheckField-clause-becomes g c = replied (state g.S.Store) _ _ g.R.RuleSet.meaning c.args.now (json_view c.args.value.now) _ (rw (c.in-Ok-Some-CheckField.field-0-is, c.in-Ok-Some-CheckField.field-0-0-is) at c.in-Ok-Some-CheckField.ensures) _ _ c.of-in-Ok-Some-CheckField.ensures
    (rw (c.deref-in-Ok-Some-CheckField.ensures.value, to_z-of_z w64 c.args.now c.ranges.now) at c.check_field.ensures.becomes)

pub returns-in-Ok-Some-CheckValue-clause-becomes : goal.returns-in-Ok-Some-CheckValue-clause-becomes
returns-in-Ok-Some-CheckValue-clause-becomes g c =
    let done = rw (c.deref-in-Ok-Some-CheckValue.ensures.value, to_z-of_z w64 c.args.now c.ranges.now) at c.check_value.ensures in
    replied (state g.S.Store) _ _ g.R.RuleSet.meaning c.args.now (json_view c.args.value.now) _ (rw (c.in-Ok-Some-CheckValue.field-0-is, c.in-Ok-Some-CheckValue.field-0-0-is) at c.in-Ok-Some-CheckValue.ensures) _ _ c.of-in-Ok-Some-CheckValue.ensures
    (unmoved (state g.S.Store) c.args.book.now c.args.store.now _ (λ m. done _ refl))

pub returns-in-Ok-Some-List-clause-becomes : goal.returns-in-Ok-Some-List-clause-becomes
returns-in-Ok-Some-List-clause-becomes g c = replied (state g.S.Store) _ _ g.R.RuleSet.meaning c.args.now (json_view c.args.value.now) _ (rw (c.in-Ok-Some-List.field-0-is, c.in-Ok-Some-List.field-0-0-is) at c.in-Ok-Some-List.ensures) _ _ c.of-in-Ok-Some-List.ensures
    (rw c.schema-in-Ok-Some-List.ensures at (c.list.ensures.becomes g.R.RuleSet.meaning c.args.now))
