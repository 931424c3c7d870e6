use Rattle.std.proofs.Common.{◌≡◌, Ok, not, ap, ◌∙◌}
use Rattle.sqlite.specs.Held.{state}
use Rattle.fv_store.specs.Faults.{fault_of}
use Rattle.fv_store.specs.Stands.{about_rows}
use Rattle.fv_store.proofs.Openings.{keeps_of, holds_still}
use Rattle.fv_store.proofs.Holdings.{same_connection, rows_out, is_refusal}
use Rattle.fv_store.proofs.Refusals.{handed_on}
use Rattle.fv_store.proofs.Kept.{all_kept}
use Rattle.fv_store.proofs.store.Store.rows.Goals as goal

pub returns-clause-found : goal.returns-clause-found
returns-clause-found g c clean =
    let same : c.self.inside.connection ≡ c.args.self.now.connection = same_connection c.self.view_is in
    let found = rw same at (c.in_ok-find.ensures.found clean) in
    rows_out (state g.S.Store c.args.self.now.connection) c.args.id.now (rw same at (c.find.ensures.frame.clean clean)) found.0 (Ok c.in_ok-find.field-0) found.1

pub returns-clause-stays : goal.returns-clause-stays
returns-clause-stays g c =
    let same : c.self.inside.connection ≡ c.args.self.now.connection = same_connection c.self.view_is in
    rw same at (holds_still (state g.S.Store c.self.inside.connection) (state g.S.Store c.find.new.conn) c.find.ensures.frame (λ d m. c.find.ensures.stays (about_rows d) (all_kept m)))

pub returns-in_err-find-clause-stays : goal.returns-in_err-find-clause-stays
returns-in_err-find-clause-stays g c =
    let same : c.self.inside.connection ≡ c.args.self.now.connection = same_connection c.self.view_is in
    rw same at (holds_still (state g.S.Store c.self.inside.connection) (state g.S.Store c.find.new.conn) c.find.ensures.frame (λ d m. c.find.ensures.stays (about_rows d) (all_kept m)))

pub returns-in_err-find-clause-cause : goal.returns-in_err-find-clause-cause
returns-in_err-find-clause-cause g c clean =
    let same : c.self.inside.connection ≡ c.args.self.now.connection = same_connection c.self.view_is in
    handed_on _ c.from_residual.result (fault_of c.in_err-find.field-0.0) c.from_residual.ensures.1
    (λ is k holds.
    rw same at (c.in_err-find.ensures.cause clean c.self.invariant.1 (about_rows k.bytes) (all_kept k.records)) (keeps_of (state g.S.Store c.args.self.now.connection) k holds) (is_refusal c.in_err-find.field-0.0 is))

pub returns-clause-same : goal.returns-clause-same
returns-clause-same g c clean =
    let same : c.self.inside.connection ≡ c.args.self.now.connection = same_connection c.self.view_is in
    let stays = rw same at (c.in_ok-find.ensures.same clean) in
    λ k holds. stays (about_rows k.bytes) (all_kept k.records) (keeps_of (state g.S.Store c.args.self.now.connection) k holds)

pub returns-clause-untouched : goal.returns-clause-untouched
returns-clause-untouched g c =
    let same : c.self.inside.connection ≡ c.args.self.now.connection = same_connection c.self.view_is in
    λ k holds.
    rw same at (c.find.ensures.untouched (c.is_autocommit.ensures.settled (c.is_autocommit.ensures.value ∙ ap not c.self.invariant.0)) (about_rows k.bytes) (all_kept k.records)) (keeps_of (state g.S.Store c.args.self.now.connection) k holds)

pub returns-in_err-find-clause-untouched : goal.returns-in_err-find-clause-untouched
returns-in_err-find-clause-untouched g c =
    let same : c.self.inside.connection ≡ c.args.self.now.connection = same_connection c.self.view_is in
    λ k holds.
    rw same at (c.find.ensures.untouched (c.is_autocommit.ensures.settled (c.is_autocommit.ensures.value ∙ ap not c.self.invariant.0)) (about_rows k.bytes) (all_kept k.records)) (keeps_of (state g.S.Store c.args.self.now.connection) k holds)

pub returns-clause-none : goal.returns-clause-none
returns-clause-none g c clean =
    let same : c.self.inside.connection ≡ c.args.self.now.connection = same_connection c.self.view_is in
    rw same at (c.in_ok-find.ensures.none clean)
