use Rattle.std.proofs.Common.{IsTrue}
use Rattle.sqlite.specs.Held.{state}
use Rattle.fv_store_tables.specs.Lists.{HasForm}
use Rattle.fv_store_tables.specs.Stands.{Keeps}
use Rattle.fv_store_tables.proofs.Refusals.{handed_on}
use Rattle.fv_store_tables.proofs.ShownIds.{ids_found, ids_refused}
use Rattle.fv_store_tables.proofs.listing.find_ids.Goals as goal

pub returns-in_err-rows-clause-cause : goal.returns-in_err-rows-clause-cause
returns-in_err-rows-clause-cause g c clean none = handed_on _ c.from_residual.result c.in_err-rows.field-0.0 c.from_residual.ensures.1 (c.in_err-rows.ensures.cause clean none)

pub returns-clause-found : goal.returns-clause-found
returns-clause-found g c clean =
    let shown = c.in_ok-rows.ensures.shown clean in
    ids_found (Keeps (state g.S.Store c.args.conn.now)) (λ m. HasForm m c.args.form.now) c.args.above.now c.args.limit c.in_ok-rows.rows.items shown.1 (IsTrue (state g.S.Store c.args.conn.now).is_open) shown.0 c.ids_in.result
    (rw c.deref.ensures.value at c.ids_in.ensures.shown)

pub returns-clause-cause : goal.returns-clause-cause
returns-clause-cause g c clean none =
    ids_refused (Keeps (state g.S.Store c.args.conn.now)) (λ m. HasForm m c.args.form.now) c.args.above.now c.args.limit c.in_ok-rows.rows.items (c.in_ok-rows.ensures.shown clean).1 (state g.S.Store c.args.conn.now)
    (state g.S.Store c.find_id_rows.new.conn) c.ids_in.result (rw c.deref.ensures.value at c.ids_in.ensures.cause)
