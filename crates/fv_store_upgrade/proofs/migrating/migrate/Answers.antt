use Rattle.std.proofs.Common.{◌≡◌, Some, ◌∙◌}
use Rattle.sqlite.specs.Held.{state}
use Rattle.fv_datum.specs.Members.{each_some}
use Rattle.fv_store_tables.specs.Olds.{olds_view}
use Rattle.fv_store_tables.proofs.Refusals.{handed_on}
use Rattle.fv_store_upgrade.specs.declared.fault.UpgradeFault.TheVariants.{Damaged}
use Rattle.fv_store_upgrade.specs.Faults.{fault_of}
use Rattle.fv_store_upgrade.specs.Steps.{named_in, news_view}
use Rattle.fv_store_upgrade.proofs.Migrates.{find_excused, migrated, rewrite_excused, row_damaged}
use Rattle.fv_store_upgrade.proofs.Reading.{ok_some}
use Rattle.fv_store_upgrade.proofs.migrating.migrate.Goals as goal

pub returns-in_err-olds-clause-cause : goal.returns-in_err-olds-clause-cause
returns-in_err-olds-clause-cause g c clean none =
    let e = c.in_err-olds.field-0.0 in
    handed_on _ c.from_residual.result (fault_of e) c.from_residual.ensures.1
    (find_excused (state g.S.Store c.args.conn.now) (state g.S.Store c.find_old.new.conn) e (c.find_old.ensures.frame.clean clean) (c.in_err-olds.ensures.cause clean none))

pub returns-in_err-records-clause-damaged : goal.returns-in_err-records-clause-damaged
returns-in_err-records-clause-damaged g c clean =
    let e = c.in_err-records.field-0.0 in
    handed_on _ c.from_residual-in_err-records.result e c.from_residual-in_err-records.ensures.1
    (row_damaged (state g.S.Store c.args.conn.now) (state g.S.Store c.find_old.new.conn) (olds_view c.in_ok-olds.olds.items) e clean c.find_old.ensures.frame c.in_ok-olds.ensures.open (c.in_ok-olds.ensures.shown clean) c.in_err-records.ensures)

pub returns-in_err-rewrite-clause-cause : goal.returns-in_err-rewrite-clause-cause
returns-in_err-rewrite-clause-cause g c clean none =
    let e = c.in_err-rewrite.field-0.0 in
    let es = olds_view c.in_ok-olds.olds.items in
    let ks = news_view c.in_ok-records.records.items in
    let read : each_some named_in es ≡ Some ks = ok_some (each_some named_in es) Damaged ks c.in_ok-records.ensures in
    handed_on _ c.from_residual-in_err-rewrite.result (fault_of e) c.from_residual-in_err-rewrite.ensures.1
    (rewrite_excused (state g.S.Store c.args.conn.now) (state g.S.Store c.find_old.new.conn) (state g.S.Store c.rewrite.new.conn) es ks c.find_old.ensures.frame c.rewrite.ensures.frame
    c.in_ok-olds.ensures.same c.in_ok-olds.ensures.shown read e clean (rw c.deref.ensures.value at (c.in_err-rewrite.ensures.cause clean (c.find_old.ensures.limit ∙ none))))

pub returns-clause-done : goal.returns-clause-done
returns-clause-done g c =
    let es = olds_view c.in_ok-olds.olds.items in
    let ks = news_view c.in_ok-records.records.items in
    let read : each_some named_in es ≡ Some ks = ok_some (each_some named_in es) Damaged ks c.in_ok-records.ensures in
    migrated (state g.S.Store c.args.conn.now) (state g.S.Store c.find_old.new.conn) (state g.S.Store c.rewrite.new.conn) es ks c.find_old.ensures.frame c.rewrite.ensures.frame
    c.in_ok-olds.ensures.same c.in_ok-olds.ensures.shown read c.in_ok-rewrite.ensures.open (rw c.deref.ensures.value at c.in_ok-rewrite.ensures.done)
