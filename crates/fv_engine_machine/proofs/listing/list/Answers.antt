use Rattle.std.proofs.Common.{sym}
use Rattle.fv_store.specs.Stock.{stock_state as state}
use Rattle.fv_engine_machine.specs.Machines.{contents}
use Rattle.fv_engine_machine.proofs.Becoming.{unmoved, unchanged, stays_itself, unlisted, listed_ids, listed_not, fails_so}
use Rattle.fv_engine_machine.proofs.listing.list.Goals as goal

pub returns-in-None-clause-becomes : goal.returns-in-None-clause-becomes
returns-in-None-clause-becomes g c = λ means now. unmoved (state g.S.Store) c.args.schema.now _ _ (λ m. unlisted means now c.args.form.now _ c.args.limit _ _ (sym c.in-None.ensures) (stays_itself _))

pub returns-in-Ok-clause-becomes : goal.returns-in-Ok-clause-becomes
returns-in-Ok-clause-becomes g c = λ means now.
    let ds = c.args.schema.now in
    unchanged (state g.S.Store) ds _ _ c.in-Ok.ensures.frame (λ bytes m holds. c.in-Ok.ensures.untouched (contents bytes ds m) holds) _
    (λ clean bytes m holds stay. listed_ids means now c.args.form.now _ c.args.limit _ _ _ (sym c.in-Some.ensures) stay (c.in-Ok.ensures.frame.was_open clean (c.in-Ok.ensures.open clean)) _ (c.in-Ok.ensures.found clean (contents bytes ds m) holds))
    (λ bytes m holds. c.in-Ok.ensures.stays (contents bytes ds m) holds)

pub returns-in-Err-clause-becomes : goal.returns-in-Err-clause-becomes
returns-in-Err-clause-becomes g c = λ means now.
    let ds = c.args.schema.now in
    unchanged (state g.S.Store) ds _ _ c.in-Err.ensures.frame (λ bytes m holds. c.in-Err.ensures.untouched (contents bytes ds m) holds) _ (λ clean bytes m holds stay. listed_not means now c.args.form.now _ c.args.limit _ _ _ (sym c.in-Some.ensures) stay c.undone.result
    (fails_so c.in-Err.fault c.undone.result _ c.undone.ensures.store c.undone.ensures.memory (λ is. c.in-Err.ensures.cause clean is (contents bytes ds m) holds)))
    (λ bytes m holds. c.in-Err.ensures.stays (contents bytes ds m) holds)
