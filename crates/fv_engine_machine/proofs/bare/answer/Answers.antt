use Rattle.std.proofs.Common.{◌≡◌, Option, None, option_map, refl, subst}
use Rattle.std.proofs.lemmas.Int.{to_z-of_z}
use mir.Syntax.{w64}
use Rattle.std.specs.Option.{unwrap_or}
use Rattle.serde_json.specs.View.{view as json_view}
use Rattle.fv_engine_command.specs.Commands.{Request, command_of, shape}
use Rattle.fv_engine_machine.specs.Judges.{ServesBare}
use Rattle.fv_engine_machine.proofs.Recordless.{bare_asked, bare_check, bare_check_field, bare_forgets, bare_get, bare_shape, bare_value, machine_of}
use Rattle.fv_engine_machine.proofs.Becoming.{short_command}
use Rattle.fv_engine_machine.proofs.Changes.{in_batch}
use Rattle.fv_engine_reply.specs.Answers.{refused}
use Rattle.fv_engine_reply.specs.declared.answer.Refusal.TheVariants.{Shape}
use Rattle.fv_store.specs.Records.{no_records}
use Rattle.fv_engine_machine.proofs.bare.answer.Goals as goal

pub returns-in-Err : goal.returns-in-Err
returns-in-Err g c = bare_forgets g.R.RuleSet.meaning c.args.book.now c.args.now _ (short_command (json_view c.args.value.now))

pub returns-in-Ok-None : goal.returns-in-Ok-None
returns-in-Ok-None g c =
    let none : None ≡ command_of (json_view c.args.value.now) = rw c.in-Ok-None.field-0-is at c.in-Ok-None.ensures in
    subst (λ (o : Option Request). ServesBare g.R.RuleSet.meaning c.args.book.now c.args.now (unwrap_or o shape) (refused Shape)) none (bare_shape g.R.RuleSet.meaning c.args.book.now c.args.now)

pub returns-in-Ok-Some-Alone : goal.returns-in-Ok-Some-Alone
returns-in-Ok-Some-Alone g c = bare_asked g.R.RuleSet.meaning c.args.book.now c.args.now _ _ _ (rw (c.in-Ok-Some-Alone.field-0-is, c.in-Ok-Some-Alone.field-0-0-is) at c.in-Ok-Some-Alone.ensures)
    (rw (to_z-of_z w64 c.args.now c.ranges.now) at c.judge_alone.ensures)

pub returns-in-Ok-Some-Batch : goal.returns-in-Ok-Some-Batch
returns-in-Ok-Some-Batch g c = bare_asked g.R.RuleSet.meaning c.args.book.now c.args.now _ _ _ (rw (c.in-Ok-Some-Batch.field-0-is, c.in-Ok-Some-Batch.field-0-0-is) at c.in-Ok-Some-Batch.ensures)
    (let judged = rw (c.deref.ensures.value, to_z-of_z w64 c.args.now c.ranges.now) at c.judge_parts.ensures in judged _ (in_batch _))

pub returns-in-Ok-Some-Get : goal.returns-in-Ok-Some-Get
returns-in-Ok-Some-Get g c = bare_asked g.R.RuleSet.meaning c.args.book.now c.args.now _ _ _ (rw (c.in-Ok-Some-Get.field-0-is, c.in-Ok-Some-Get.field-0-0-is) at c.in-Ok-Some-Get.ensures)
    (bare_get g.R.RuleSet.meaning c.args.book.now c.args.now _)

pub returns-in-Ok-Some-Check : goal.returns-in-Ok-Some-Check
returns-in-Ok-Some-Check g c = bare_asked g.R.RuleSet.meaning c.args.book.now c.args.now _ _ _ (rw (c.in-Ok-Some-Check.field-0-is, c.in-Ok-Some-Check.field-0-0-is) at c.in-Ok-Some-Check.ensures)
    (bare_check g.R.RuleSet.meaning c.args.book.now c.args.now c.in-Ok-Some-Check.field-0-0-0.now _)

pub returns-in-Ok-Some-CheckField : goal.returns-in-Ok-Some-CheckField
returns-in-Ok-Some-CheckField g c = bare_asked g.R.RuleSet.meaning c.args.book.now c.args.now _ _ _ (rw (c.in-Ok-Some-CheckField.field-0-is, c.in-Ok-Some-CheckField.field-0-0-is) at c.in-Ok-Some-CheckField.ensures)
    (bare_check_field g.R.RuleSet.meaning c.args.book.now c.args.now c.in-Ok-Some-CheckField.field-0-0-0.id.now _ _ _)

pub returns-in-Ok-Some-CheckValue : goal.returns-in-Ok-Some-CheckValue
returns-in-Ok-Some-CheckValue g c =
    let done = rw (c.deref-in-Ok-Some-CheckValue.ensures.value, to_z-of_z w64 c.args.now c.ranges.now) at c.check_value.ensures in
    bare_asked g.R.RuleSet.meaning c.args.book.now c.args.now _ _ _ (rw (c.in-Ok-Some-CheckValue.field-0-is, c.in-Ok-Some-CheckValue.field-0-0-is) at c.in-Ok-Some-CheckValue.ensures)
    (bare_value g.R.RuleSet.meaning c.args.book.now c.args.now _ _ _ _ _ (done (machine_of c.args.book.now no_records) refl))

pub returns : goal.returns
returns g c = bare_asked g.R.RuleSet.meaning c.args.book.now c.args.now _ _ _ (rw (c.in-Ok-Some-List.field-0-is, c.in-Ok-Some-List.field-0-0-is) at c.in-Ok-Some-List.ensures)
    (let told = rw c.schema.ensures at c.list_none.ensures in told g.R.RuleSet.meaning c.args.now (option_map (λ s. s.now) c.in-Ok-Some-List.field-0-0-1) _)
