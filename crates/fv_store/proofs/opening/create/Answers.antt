use Rattle.std.proofs.Common.{◌≡◌, sym, subst, refl, rules, arith}
use Rattle.sqlite.specs.State.{HasCleanDisk}
use Rattle.sqlite.specs.Held.{state}
use Rattle.fv_store.specs.Causes.{IsShortAbout}
use Rattle.fv_store.specs.Stands.{IsBlank}
use Rattle.fv_store.specs.Steps.{IsExcused}
use Rattle.fv_store.proofs.Steps.{failed_still}
use Rattle.fv_store.proofs.Refusals.{handed_on}
use Rattle.fv_store.proofs.opening.create.Goals as goal

pub returns-in_err-create_tables-clause-cause : goal.returns-in_err-create_tables-clause-cause
returns-in_err-create_tables-clause-cause g c clean none =
    let old = c.args.conn.now in
    let mid = c.create_tables.new.tx.conn.now in
    let end = c.drop-tx.new.self.0 in
    let begun = c.transaction-tx.ensures.begun in
    let same : end ≡ c.conn-1.given.0 = search rules in
    let last : HasCleanDisk (state g.S.Store end) = subst (λ h. HasCleanDisk (state g.S.Store h)) (sym same) clean in
    let late : HasCleanDisk (state g.S.Store mid) = omega (arith, c.drop-tx.ensures.survives.clean, last) in
    let e = c.in_err-create_tables.field-0.0 in
    handed_on _ c.from_residual.result e c.from_residual.ensures.1
    (subst (λ h. IsBlank (state g.S.Store old).now → IsShortAbout c.args.declarations.now → IsExcused (state g.S.Store old) (state g.S.Store h) e) same
    (λ blank short refused. failed_still (state g.S.Store old) (state g.S.Store mid) (state g.S.Store end) c.drop-tx.ensures.survives.counts
    ((rw begun at (c.in_err-create_tables.ensures.cause late (rw begun refl) (rw begun none))) blank short refused)))
