use Rattle.std.proofs.Common.{◌≡◌}
use Rattle.sqlite.specs.Held.{state}
use Rattle.fv_store.specs.Faults.{fault_of}
use Rattle.fv_store.proofs.Holdings.{same_connection, commit_made, commit_done, commit_undone, is_refusal}
use Rattle.fv_store.proofs.Openings.{keeps_of}
use Rattle.fv_store.proofs.Refusals.{handed_on}
use Rattle.fv_store.proofs.store.Store.commit.Goals as goal

pub returns-clause-made : goal.returns-clause-made
returns-clause-made g c =
    let same : c.self.inside.connection ≡ c.args.self.now.connection = same_connection c.self.view_is in
    rw same at (commit_made (state g.S.Store c.self.inside.connection) (state g.S.Store c.commit.new.conn) c.commit.ensures.frame c.args.changes.now c.in_ok-commit.ensures.done)

pub returns-clause-done : goal.returns-clause-done
returns-clause-done g c =
    let same : c.self.inside.connection ≡ c.args.self.now.connection = same_connection c.self.view_is in
    rw same at (commit_done (state g.S.Store c.self.inside.connection) (state g.S.Store c.commit.new.conn) c.commit.ensures.frame c.args.changes.now c.in_ok-commit.ensures.done)

pub returns-clause-room : goal.returns-clause-room
returns-clause-room g c =
    let same : c.self.inside.connection ≡ c.args.self.now.connection = same_connection c.self.view_is in
    λ clean k holds. rw same at (c.in_ok-commit.ensures.room clean k.bytes k.records) (keeps_of (state g.S.Store c.args.self.now.connection) k holds)

pub returns-in_err-commit-clause-undone : goal.returns-in_err-commit-clause-undone
returns-in_err-commit-clause-undone g c =
    let same : c.self.inside.connection ≡ c.args.self.now.connection = same_connection c.self.view_is in
    rw same at (commit_undone (state g.S.Store c.self.inside.connection) (state g.S.Store c.commit.new.conn) c.commit.ensures.frame c.from_residual.result c.in_err-commit.ensures.undone)

pub returns-in_err-commit-clause-cause : goal.returns-in_err-commit-clause-cause
returns-in_err-commit-clause-cause g c clean =
    let same : c.self.inside.connection ≡ c.args.self.now.connection = same_connection c.self.view_is in
    handed_on _ c.from_residual.result (fault_of c.in_err-commit.field-0.0) c.from_residual.ensures.1
    (λ is k holds room short. rw same at (c.in_err-commit.ensures.cause clean c.self.invariant.1 k.bytes k.records) (keeps_of (state g.S.Store c.args.self.now.connection) k holds) room short (is_refusal c.in_err-commit.field-0.0 is))
