use Rattle.std.proofs.Common.{◌≡◌, ◌∷◌, [], ◌<◌, ◌^◌, List, ℕ, subst, sym, refl, rules, arith, OnOk, ◌∙◌}
use Rattle.sqlite.specs.State.{HasCleanDisk}
use Rattle.sqlite.specs.Held.{state}
use Rattle.fv_store_tables.specs.Causes.{IsExcused, IsShortAbout}
use Rattle.fv_store_tables.specs.Creating.{no_entries}
use Rattle.fv_store_tables.specs.Olds.{IsFirst}
use Rattle.fv_store_tables.specs.Stands.{Keeps, about_row}
use Rattle.fv_store_tables.proofs.Refusals.{handed_on}
use Rattle.fv_store_upgrade.specs.Steps.{AllApart, EachShort, all_put, news_view, rows_taken}
use Rattle.fv_store_upgrade.proofs.Migrates.{put_cause, replace_cause, rewritten}
use Rattle.fv_store_upgrade.proofs.migrating.rewrite.Goals as goal

pub returns-clause-done : goal.returns-clause-done
returns-clause-done g c =
    let old = c.args.conn.now in
    let one = c.replace_tables.new.tx.conn.now in
    let mid = c.put_all.new.tx.conn.now in
    let end = c.commit.new.self.0 in
    let ks = news_view c.args.records.now in
    let begun = c.transaction-tx.ensures.begun in
    let same : end ≡ c.conn-2-1.given.0 = search rules in
    subst (λ h. HasCleanDisk (state g.S.Store h) → OnOk c.commit.result ((d : List ℕ) → IsFirst d (state g.S.Store old).now → AllApart ks → Keeps (state g.S.Store h) (about_row 2 d ∷ []) (all_put ks no_entries))) same
    (rewritten (state g.S.Store old) (state g.S.Store one) (state g.S.Store mid) (state g.S.Store end) ks c.commit.result
    (λ clean. omega (arith, c.commit.ensures.survives.clean))
    (λ clean. c.put_all.ensures.frame.clean clean)
    (λ clean. rw begun at (c.in_ok-replace_tables.ensures.done clean (rw begun refl)))
    (λ clean inside. c.in_ok-put_all.ensures.done clean inside)
    c.commit.ensures.ok)

pub returns-in_err-replace_tables-clause-cause : goal.returns-in_err-replace_tables-clause-cause
returns-in_err-replace_tables-clause-cause g c clean none =
    let old = c.args.conn.now in
    let one = c.replace_tables.new.tx.conn.now in
    let end = c.drop-tx.new.self.0 in
    let ks = news_view c.args.records.now in
    let begun = c.transaction-tx.ensures.begun in
    let same : end ≡ c.conn-1.given.0 = search rules in
    let last : HasCleanDisk (state g.S.Store end) = subst (λ h. HasCleanDisk (state g.S.Store h)) (sym same) clean in
    let late : HasCleanDisk (state g.S.Store one) = omega (arith, c.drop-tx.ensures.survives.clean, last) in
    let e = c.in_err-replace_tables.field-0.0 in
    handed_on _ c.from_residual.result e c.from_residual.ensures.1
    (subst (λ h. (d : List ℕ) → IsFirst d (state g.S.Store old).now → IsShortAbout d → AllApart ks → rows_taken ks < 2 ^ 63 → EachShort ks → IsExcused (state g.S.Store old) (state g.S.Store h) e) same
    (replace_cause (state g.S.Store old) (state g.S.Store one) (state g.S.Store end) ks c.drop-tx.ensures.survives.counts e
    (rw begun at (c.in_err-replace_tables.ensures.cause late (rw begun refl) (rw begun none)))))

pub returns-in_err-put_all-clause-cause : goal.returns-in_err-put_all-clause-cause
returns-in_err-put_all-clause-cause g c clean none =
    let old = c.args.conn.now in
    let one = c.replace_tables.new.tx.conn.now in
    let mid = c.put_all.new.tx.conn.now in
    let end = c.drop-tx-in_err-put_all.new.self.0 in
    let ks = news_view c.args.records.now in
    let begun = c.transaction-tx.ensures.begun in
    let same : end ≡ c.conn-in_err-put_all-1.given.0 = search rules in
    let last : HasCleanDisk (state g.S.Store end) = subst (λ h. HasCleanDisk (state g.S.Store h)) (sym same) clean in
    let late : HasCleanDisk (state g.S.Store mid) = omega (arith, c.drop-tx-in_err-put_all.ensures.survives.clean, last) in
    let sure = c.put_all.ensures.frame.clean late in
    let replaced = rw begun at (c.in_ok-replace_tables.ensures.done sure (rw begun refl)) in
    let e = c.in_err-put_all.field-0.0 in
    handed_on _ c.from_residual-in_err-put_all.result e c.from_residual-in_err-put_all.ensures.1
    (subst (λ h. (d : List ℕ) → IsFirst d (state g.S.Store old).now → IsShortAbout d → AllApart ks → rows_taken ks < 2 ^ 63 → EachShort ks → IsExcused (state g.S.Store old) (state g.S.Store h) e) same
    (put_cause (state g.S.Store old) (state g.S.Store one) (state g.S.Store mid) (state g.S.Store end) ks sure (rw begun at c.replace_tables.ensures.frame) c.put_all.ensures.frame.counts
    c.drop-tx-in_err-put_all.ensures.survives.counts replaced e (c.in_err-put_all.ensures.cause late replaced.mode (rw begun at (c.replace_tables.ensures.limit) ∙ none))))
