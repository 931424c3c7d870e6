use Rattle.std.proofs.Common.{◌≡◌, false, refl, sym, subst, string_bytes}
use Rattle.fv_bundle.specs.Types.{Declared, has_deep}
use Rattle.fv_store.specs.Stock.{stock_state as state}
use Rattle.fv_engine_command.specs.Commands.{get}
use Rattle.fv_engine_machine.specs.Machines.{contents}
use Rattle.fv_engine_machine.proofs.Becoming.{unchanged, got_none, got_no_text, got_shown, not_found, fails_so, told_reply}
use Rattle.fv_engine_reply.specs.Answers.{refused}
use Rattle.fv_engine_reply.specs.declared.answer.Refusal.TheVariants.{NoRecord}
use Rattle.fv_engine_machine.proofs.answering.get.Goals as goal

pub returns-in-Ok-None-clause-becomes : goal.returns-in-Ok-None-clause-becomes
returns-in-Ok-None-clause-becomes g c = λ ds means now same.
    let texts = rw c.in-Ok-None.field-0-is at c.in-Ok-None.ensures.as_text in
    unchanged (state g.S.Store) ds _ _ c.in-Ok-None.ensures.frame (λ bytes m holds. c.in-Ok-None.ensures.untouched (contents bytes ds m) holds) _
    (λ clean bytes m holds stay. told_reply means now (get c.args.id.now) refl _ _ (refused NoRecord) _ c.refused.ensures
    (got_none means now c.args.id.now _ _ stay (c.in-Ok-None.ensures.frame.was_open clean (c.in-Ok-None.ensures.open clean)) (got_no_text (m c.args.id.now) (texts clean (contents bytes ds m) holds))))
    (λ bytes m holds. c.in-Ok-None.ensures.stays (contents bytes ds m) holds)

pub returns-in-Ok-Some-clause-becomes : goal.returns-in-Ok-Some-clause-becomes
returns-in-Ok-Some-clause-becomes g c = λ ds means now same.
    let texts = rw c.in-Ok-Some.field-0-is at c.in-Ok-Some.ensures.as_text in
    let found = rw c.in-Ok-Some.field-0-is at c.in-Ok-Some.ensures.found in
    let shallow : has_deep ds.types ≡ false = subst (λ (ts : Declared). has_deep ts ≡ false) (sym same) c.are_shallow.ensures in
    let told = rw (c.as_str.ensures.value, c.as_str-in-Ok-Some.ensures.value) at c.shown.ensures.told in
    unchanged (state g.S.Store) ds _ _ c.in-Ok-Some.ensures.frame (λ bytes m holds. c.in-Ok-Some.ensures.untouched (contents bytes ds m) holds) _
    (λ clean bytes m holds stay. got_shown means now c.args.id.now _ _ stay (c.in-Ok-Some.ensures.frame.was_open clean (c.in-Ok-Some.ensures.open clean))
    (string_bytes c.in-Ok-Some.written.form) (string_bytes c.in-Ok-Some.written.bundle) c.shown.result (texts clean (contents bytes ds m) holds) (found clean (contents bytes ds m) shallow holds) told)
    (λ bytes m holds. c.in-Ok-Some.ensures.stays (contents bytes ds m) holds)

pub returns-in-Err-clause-becomes : goal.returns-in-Err-clause-becomes
returns-in-Err-clause-becomes g c = λ ds means now same.
    unchanged (state g.S.Store) ds _ _ c.in-Err.ensures.frame (λ bytes m holds. c.in-Err.ensures.untouched (contents bytes ds m) holds) _
    (λ clean bytes m holds stay. told_reply means now (get c.args.id.now) refl _ _ (refused c.undone.result) _ c.refused-in-Err.ensures
    (not_found means now (get c.args.id.now) _ _ stay refl (refl, refl, refl) c.undone.result
    (fails_so c.in-Err.fault c.undone.result _ c.undone.ensures.store c.undone.ensures.memory (λ is. c.in-Err.ensures.cause clean is (contents bytes ds m) holds))))
    (λ bytes m holds. c.in-Err.ensures.stays (contents bytes ds m) holds)
