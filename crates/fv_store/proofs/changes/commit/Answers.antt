use Rattle.std.proofs.Common.{◌≡◌, List, ℕ, subst, sym, refl, rules, arith, OnOk}
use Rattle.sqlite.specs.State.{HasCleanDisk}
use Rattle.sqlite.specs.Held.{state}
use Rattle.fv_store.specs.Records.{Records}
use Rattle.fv_store.specs.Causes.{AreShort, HasRooms, LeavesRoom, rows_of_all}
use Rattle.fv_store.specs.Changes.{after_all}
use Rattle.fv_store.specs.Steps.{IsExcused, Keeps}
use Rattle.fv_store.proofs.Steps.{commit_leaves, commit_on_ok, make_cause}
use Rattle.fv_store.proofs.Refusals.{handed_on}
use Rattle.fv_store.proofs.changes.commit.Goals as goal

pub returns-clause-done : goal.returns-clause-done
returns-clause-done g c =
    let old = c.args.conn.now in
    let mid = c.apply_all.new.tx.conn.now in
    let end = c.commit.new.self.0 in
    let begun = c.transaction-tx.ensures.begun in
    let same : end ≡ c.conn-2-1.given.0 = search rules in
    subst (λ h. OnOk c.commit.result ((d : List ℕ) (m : Records) → Keeps (state g.S.Store old) d m → Keeps (state g.S.Store h) d (after_all c.args.changes.now m))) same
    (commit_on_ok (state g.S.Store old) (state g.S.Store mid) (state g.S.Store end) c.args.changes.now c.commit.result
    (λ clean. omega (arith, c.commit.ensures.survives.clean))
    (λ clean. rw begun at (c.apply_all.ensures.frame.clean clean))
    (λ clean. rw begun at (c.in_ok-apply_all.ensures.done clean (rw begun refl)))
    c.commit.ensures.ok)

pub returns-clause-room : goal.returns-clause-room
returns-clause-room g c =
    let old = c.args.conn.now in
    let mid = c.apply_all.new.tx.conn.now in
    let end = c.commit.new.self.0 in
    let begun = c.transaction-tx.ensures.begun in
    let same : end ≡ c.conn-2-1.given.0 = search rules in
    subst (λ h. HasCleanDisk (state g.S.Store h) → OnOk c.commit.result ((d : List ℕ) (m : Records) → Keeps (state g.S.Store old) d m → LeavesRoom (rows_of_all c.args.changes.now) (state g.S.Store old).now (state g.S.Store h).now)) same
    (commit_leaves (state g.S.Store old) (state g.S.Store mid) (state g.S.Store end) c.args.changes.now c.commit.result
    (λ clean. omega (arith, c.commit.ensures.survives.clean))
    (λ clean. rw begun at (c.apply_all.ensures.frame.clean clean))
    (λ clean. rw begun at (c.in_ok-apply_all.ensures.done clean (rw begun refl)))
    c.commit.ensures.ok)

pub returns-in_err-apply_all-clause-cause : goal.returns-in_err-apply_all-clause-cause
returns-in_err-apply_all-clause-cause g c clean none =
    let old = c.args.conn.now in
    let mid = c.apply_all.new.tx.conn.now in
    let end = c.drop-tx.new.self.0 in
    let begun = c.transaction-tx.ensures.begun in
    let same : end ≡ c.conn-1.given.0 = search rules in
    let last : HasCleanDisk (state g.S.Store end) = subst (λ h. HasCleanDisk (state g.S.Store h)) (sym same) clean in
    let late : HasCleanDisk (state g.S.Store mid) = omega (arith, c.drop-tx.ensures.survives.clean, last) in
    let early : HasCleanDisk (state g.S.Store old) = rw begun at (c.apply_all.ensures.frame.clean late) in
    let e = c.in_err-apply_all.field-0.0 in
    handed_on _ c.from_residual.result e c.from_residual.ensures.1
    (subst (λ h. (d : List ℕ) (m : Records) → Keeps (state g.S.Store old) d m → HasRooms (rows_of_all c.args.changes.now) (state g.S.Store old).now → AreShort c.args.changes.now → IsExcused (state g.S.Store old) (state g.S.Store h) e) same
    (make_cause (state g.S.Store old) (state g.S.Store mid) (state g.S.Store end) c.args.changes.now early c.drop-tx.ensures.survives.counts e
    (rw begun at (c.in_err-apply_all.ensures.cause late (rw begun refl) (rw begun none)))))
