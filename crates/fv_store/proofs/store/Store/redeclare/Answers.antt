use Rattle.std.proofs.Common.{◌≡◌}
use Rattle.sqlite.specs.Held.{state}
use Rattle.fv_store.specs.Faults.{fault_of}
use Rattle.fv_store.proofs.Holdings.{same_connection, commit_undone, declared, is_refusal}
use Rattle.fv_store.proofs.Openings.{keeps_of}
use Rattle.fv_store.proofs.Refusals.{handed_on}
use Rattle.fv_store.proofs.store.Store.redeclare.Goals as goal

pub returns-clause-made : goal.returns-clause-made
returns-clause-made g c =
    let same : c.self.inside.connection ≡ c.args.self.now.connection = same_connection c.self.view_is in
    rw same at (declared (state g.S.Store c.self.inside.connection) (state g.S.Store c.redeclare.new.conn) c.redeclare.ensures.frame c.args.declarations.now c.in_ok-redeclare.ensures.done)

pub returns-clause-room : goal.returns-clause-room
returns-clause-room g c =
    let same : c.self.inside.connection ≡ c.args.self.now.connection = same_connection c.self.view_is in
    λ clean k holds. rw same at (c.in_ok-redeclare.ensures.room clean k.bytes k.records) (keeps_of (state g.S.Store c.args.self.now.connection) k holds)

pub returns-in_err-redeclare-clause-undone : goal.returns-in_err-redeclare-clause-undone
returns-in_err-redeclare-clause-undone g c =
    let same : c.self.inside.connection ≡ c.args.self.now.connection = same_connection c.self.view_is in
    rw same at (commit_undone (state g.S.Store c.self.inside.connection) (state g.S.Store c.redeclare.new.conn) c.redeclare.ensures.frame c.from_residual-in_err-redeclare.result c.in_err-redeclare.ensures.undone)

pub returns-in_err-redeclare-clause-cause : goal.returns-in_err-redeclare-clause-cause
returns-in_err-redeclare-clause-cause g c clean =
    let same : c.self.inside.connection ≡ c.args.self.now.connection = same_connection c.self.view_is in
    handed_on _ c.from_residual-in_err-redeclare.result (fault_of c.in_err-redeclare.field-0.0) c.from_residual-in_err-redeclare.ensures.1
    (λ is k holds short. rw same at (c.in_err-redeclare.ensures.cause clean c.self.invariant.1 k.bytes k.records) (keeps_of (state g.S.Store c.args.self.now.connection) k holds) short (is_refusal c.in_err-redeclare.field-0.0 is))

pub returns-clause-text : goal.returns-clause-text
returns-clause-text g c = c.in_ok-text.ensures.items_if_clones_equal (λ x y e. e)
