use Rattle.std.proofs.Common.{Ok}
use Rattle.sqlite.specs.Held.{state}
use Rattle.fv_store.specs.Faults.{fault_of}
use Rattle.fv_store.proofs.Holdings.{is_refusal, text_out, written_out}
use Rattle.fv_store.proofs.Refusals.{handed_on}
use Rattle.fv_store.proofs.store.Store.written.Goals as goal

pub returns-clause-found : goal.returns-clause-found
returns-clause-found g c clean =
    let frame = c.rows.ensures.frame in
    written_out (state g.S.Store c.args.self.now.connection) c.args.id.now c.in_ok-rows.rows (frame.clean clean) (frame.was_open clean (c.in_ok-found.ensures.open clean)) (λ k holds. c.in_ok-rows.ensures.shown _ (c.in_ok-found.ensures.found clean k holds)) (Ok c.in_ok-written_if.field-0) c.in_ok-written_if.ensures.read

pub returns-clause-as_text : goal.returns-clause-as_text
returns-clause-as_text g c clean =
    let frame = c.rows.ensures.frame in
    text_out (state g.S.Store c.args.self.now.connection) c.args.id.now c.in_ok-rows.rows (frame.clean clean) (frame.was_open clean (c.in_ok-found.ensures.open clean)) (λ k holds. c.in_ok-rows.ensures.shown _ (c.in_ok-found.ensures.found clean k holds)) (Ok c.in_ok-written_if.field-0) c.in_ok-written_if.ensures.text

pub returns-in_err-found-clause-cause : goal.returns-in_err-found-clause-cause
returns-in_err-found-clause-cause g c clean =
    handed_on _ c.from_residual.result c.in_err-found.field-0.0 c.from_residual.ensures.1 (λ is k holds. c.in_err-found.ensures.cause clean is k holds)

pub returns-in_err-rows-clause-cause : goal.returns-in_err-rows-clause-cause
returns-in_err-rows-clause-cause g c clean =
    handed_on _ c.from_residual-in_err-rows.result (fault_of c.in_err-rows.field-0.0) c.from_residual-in_err-rows.ensures.1
    (λ is k holds. absurd (c.in_err-rows.ensures.cause _ (c.in_ok-found.ensures.found clean k holds) (is_refusal c.in_err-rows.field-0.0 is)))

pub returns-clause-none : goal.returns-clause-none
returns-clause-none g c clean = λ none. c.in_ok-found.ensures.none clean (c.in_ok-rows.ensures.none (c.in_ok-written_if.ensures.none none))
