use Rattle.sqlite.specs.Held.{state}
use Rattle.fv_bundle.specs.TypesView.{types_view}
use Rattle.fv_store.specs.Faults.{fault_of}
use Rattle.fv_store.proofs.Holdings.{handed_out, is_refusal, never_refused, none_out}
use Rattle.fv_store.proofs.Refusals.{handed_on}
use Rattle.fv_store.proofs.store.Store.get.Goals as goal

pub returns-clause-found : goal.returns-clause-found
returns-clause-found g c clean =
    let frame = c.rows.ensures.frame in
    handed_out (state g.S.Store c.args.self.now.connection) (types_view c.args.types.now) c.args.id.now c.in_ok-rows.rows c.stored_if.result (frame.clean clean) (frame.was_open clean (c.in_ok-found.ensures.open clean)) (λ k holds. c.in_ok-rows.ensures.shown _ (c.in_ok-found.ensures.found clean k holds)) c.stored_if.ensures.read

pub returns-in_err-found-clause-cause : goal.returns-in_err-found-clause-cause
returns-in_err-found-clause-cause g c clean =
    handed_on _ c.from_residual.result c.in_err-found.field-0.0 c.from_residual.ensures.1 (λ is k types holds. c.in_err-found.ensures.cause clean is k holds)

pub returns-clause-cause : goal.returns-clause-cause
returns-clause-cause g c clean =
    let frame = c.rows.ensures.frame in
    never_refused (state g.S.Store c.args.self.now.connection) (types_view c.args.types.now) c.args.id.now c.in_ok-rows.rows c.stored_if.result (frame.clean clean) (frame.was_open clean (c.in_ok-found.ensures.open clean)) (λ k holds. c.in_ok-rows.ensures.shown _ (c.in_ok-found.ensures.found clean k holds)) c.stored_if.ensures.read _

pub returns-in_err-rows-clause-cause : goal.returns-in_err-rows-clause-cause
returns-in_err-rows-clause-cause g c clean =
    handed_on _ c.from_residual-in_err-rows.result (fault_of c.in_err-rows.field-0.0) c.from_residual-in_err-rows.ensures.1
    (λ is k types holds. absurd (c.in_err-rows.ensures.cause _ (c.in_ok-found.ensures.found clean k holds) (is_refusal c.in_err-rows.field-0.0 is)))

pub returns-clause-none : goal.returns-clause-none
returns-clause-none g c clean = none_out _ _ c.stored_if.result c.stored_if.ensures.none (λ none. c.in_ok-found.ensures.none clean (c.in_ok-rows.ensures.none none))
