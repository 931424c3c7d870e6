use Rattle.sqlite.specs.Held.{state}
use Rattle.fv_store_tables.proofs.Refusals.{handed_on}
use Rattle.fv_store_tables.proofs.OldRows.{olds_found, olds_refused}
use Rattle.fv_store_tables.proofs.migrating.find_old.Goals as goal

pub returns-in_err-rows-clause-cause : goal.returns-in_err-rows-clause-cause
returns-in_err-rows-clause-cause g c clean none = handed_on _ c.from_residual.result c.in_err-rows.field-0.0 c.from_residual.ensures.1 (c.in_err-rows.ensures.cause clean none)

pub returns-clause-shown : goal.returns-clause-shown
returns-clause-shown g c clean =
    olds_found (state g.S.Store c.args.conn.now) (state g.S.Store c.find_old_rows.new.conn) c.in_ok-rows.rows.items (c.in_ok-rows.ensures.shown clean) c.olds_in.result (rw c.deref.ensures.value at c.olds_in.ensures.shown)

pub returns-clause-cause : goal.returns-clause-cause
returns-clause-cause g c clean none =
    olds_refused (state g.S.Store c.args.conn.now) (state g.S.Store c.find_old_rows.new.conn) c.in_ok-rows.rows.items (c.in_ok-rows.ensures.shown clean) c.olds_in.result (rw c.deref.ensures.value at c.olds_in.ensures.cause)
