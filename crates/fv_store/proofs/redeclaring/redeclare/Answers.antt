use Rattle.std.proofs.Common.{◌≡◌, List, ℕ, subst, sym, refl, rules, arith, OnOk}
use Rattle.sqlite.specs.State.{HasCleanDisk}
use Rattle.sqlite.specs.Held.{state}
use Rattle.fv_store.specs.Records.{Records}
use Rattle.fv_store.specs.Causes.{IsShortAbout, LeavesRoom}
use Rattle.fv_store.specs.Steps.{IsExcused, Keeps}
use Rattle.fv_store.proofs.Steps.{declare_cause, declare_leaves, declare_on_ok}
use Rattle.fv_store.proofs.Refusals.{handed_on}
use Rattle.fv_store.proofs.redeclaring.redeclare.Goals as goal

pub returns-clause-done : goal.returns-clause-done
returns-clause-done g c =
    let old = c.args.conn.now in
    let mid = c.write_about.new.tx.conn.now in
    let end = c.commit.new.self.0 in
    let begun = c.transaction-tx.ensures.begun in
    let same : end ≡ c.conn-2-1.given.0 = search rules in
    subst (λ h. OnOk c.commit.result ((d : List ℕ) (m : Records) → Keeps (state g.S.Store old) d m → Keeps (state g.S.Store h) c.args.declarations.now m)) same
    (declare_on_ok (state g.S.Store old) (state g.S.Store mid) (state g.S.Store end) c.args.declarations.now c.commit.result
    (λ clean. omega (arith, c.commit.ensures.survives.clean))
    (λ clean. rw begun at (c.write_about.ensures.frame.clean clean))
    (λ clean. rw begun at (c.in_ok-write_about.ensures.done clean (rw begun refl)))
    c.commit.ensures.ok)

pub returns-clause-room : goal.returns-clause-room
returns-clause-room g c =
    let old = c.args.conn.now in
    let mid = c.write_about.new.tx.conn.now in
    let end = c.commit.new.self.0 in
    let begun = c.transaction-tx.ensures.begun in
    let same : end ≡ c.conn-2-1.given.0 = search rules in
    subst (λ h. HasCleanDisk (state g.S.Store h) → OnOk c.commit.result ((d : List ℕ) (m : Records) → Keeps (state g.S.Store old) d m → LeavesRoom 0 (state g.S.Store old).now (state g.S.Store h).now)) same
    (declare_leaves (state g.S.Store old) (state g.S.Store mid) (state g.S.Store end) c.args.declarations.now c.commit.result
    (λ clean. omega (arith, c.commit.ensures.survives.clean))
    (λ clean. rw begun at (c.write_about.ensures.frame.clean clean))
    (λ clean. rw begun at (c.in_ok-write_about.ensures.done clean (rw begun refl)))
    c.commit.ensures.ok)

pub returns-in_err-write_about-clause-cause : goal.returns-in_err-write_about-clause-cause
returns-in_err-write_about-clause-cause g c clean none =
    let old = c.args.conn.now in
    let mid = c.write_about.new.tx.conn.now in
    let end = c.drop-tx.new.self.0 in
    let begun = c.transaction-tx.ensures.begun in
    let same : end ≡ c.conn-1.given.0 = search rules in
    let last : HasCleanDisk (state g.S.Store end) = subst (λ h. HasCleanDisk (state g.S.Store h)) (sym same) clean in
    let late : HasCleanDisk (state g.S.Store mid) = omega (arith, c.drop-tx.ensures.survives.clean, last) in
    let early : HasCleanDisk (state g.S.Store old) = rw begun at (c.write_about.ensures.frame.clean late) in
    let e = c.in_err-write_about.field-0.0 in
    handed_on _ c.from_residual.result e c.from_residual.ensures.1
    (subst (λ h. (d : List ℕ) (m : Records) → Keeps (state g.S.Store old) d m → IsShortAbout c.args.declarations.now → IsExcused (state g.S.Store old) (state g.S.Store h) e) same
    (declare_cause (state g.S.Store old) (state g.S.Store mid) (state g.S.Store end) c.args.declarations.now early c.drop-tx.ensures.survives.counts e
    (rw begun at (c.in_err-write_about.ensures.cause late (rw begun refl) (rw begun none)))))
