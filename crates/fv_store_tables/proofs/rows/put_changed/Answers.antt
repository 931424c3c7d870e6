use Rattle.std.proofs.Common.{[], ◌∷◌, ◌≢◌, ◌∙◌, arith}
use Rattle.sqlite.specs.Held.{state}
use Rattle.fv_store_tables.specs.Changes.{found_object, object_view}
use Rattle.fv_store_tables.specs.Stands.{ObjectTexts, ObjectKey}
use Rattle.fv_store_tables.specs.Steps.{IsThere}
use Rattle.fv_store_tables.proofs.Composed.{fewer_rooms}
use Rattle.fv_store_tables.proofs.Steps.{then_on_ok}
use Rattle.fv_store_tables.proofs.Replaces.{anyhow, part_written, row_missed, row_in_place, row_missed_cause}
use Rattle.fv_store_tables.proofs.Refusals.{handed_on}
use Rattle.fv_store_tables.proofs.rows.put_changed.Goals as goal

pub returns-in_err-changed-clause-cause : goal.returns-in_err-changed-clause-cause
returns-in_err-changed-clause-cause g c clean inside none =
    handed_on _ c.from_residual.result c.in_err-changed.field-0.0 c.from_residual.ensures.1
    (λ d t spelled owned has room short. c.in_err-changed.ensures.cause clean inside none d t spelled owned
    (fewer_rooms 0 1 (state g.S.Store c.args.tx.now.conn.now).now (omega arith) room) short)

pub returns-in-0-clause-done : goal.returns-in-0-clause-done
returns-in-0-clause-done g c clean inside =
    let at : ObjectKey = (c.args.id.now, (object_view c.args.object.now).0) in
    let p : ObjectTexts = (object_view c.args.object.now).1 in
    let updated = rw c.in-0.is at (c.in_ok-changed.ensures.done (c.put_object.ensures.frame.clean clean) inside) in
    anyhow (state g.S.Store c.args.tx.now.conn.now) (state g.S.Store c.put_object.new.tx.conn.now) at p (IsThere c.args.id.now (found_object c.args.row.now ∷ []) (object_view c.args.object.now)) c.put_object.result
    (then_on_ok (state g.S.Store c.args.tx.now.conn.now) (state g.S.Store c.update_row.new.tx.conn.now) (state g.S.Store c.put_object.new.tx.conn.now) c.put_object.result
    (row_missed c.args.row.now.rowid at p) updated (c.put_object.ensures.done clean updated.mode))

pub returns-in-0-clause-cause : goal.returns-in-0-clause-cause
returns-in-0-clause-cause g c clean inside none =
    let at : ObjectKey = (c.args.id.now, (object_view c.args.object.now).0) in
    let p : ObjectTexts = (object_view c.args.object.now).1 in
    let updated = rw c.in-0.is at (c.in_ok-changed.ensures.done (c.put_object.ensures.frame.clean clean) inside) in
    row_missed_cause (state g.S.Store c.args.tx.now.conn.now) (state g.S.Store c.update_row.new.tx.conn.now) (state g.S.Store c.put_object.new.tx.conn.now) c.args.row.now.rowid at p clean
    c.update_row.ensures.frame c.put_object.ensures.frame updated c.put_object.result (c.put_object.ensures.cause clean updated.mode (c.update_row.ensures.limit ∙ none))

pub returns-in_default-clause-done : goal.returns-in_default-clause-done
returns-in_default-clause-done g c clean inside =
    let at : ObjectKey = (c.args.id.now, (object_view c.args.object.now).0) in
    let p : ObjectTexts = (object_view c.args.object.now).1 in
    let some : c.in_ok-changed.changed ≢ 0 = assumption c.in_default in
    part_written (state g.S.Store c.args.tx.now.conn.now) (state g.S.Store c.update_row.new.tx.conn.now) at p (IsThere c.args.id.now (found_object c.args.row.now ∷ []) (object_view c.args.object.now))
    (row_in_place (state g.S.Store c.args.tx.now.conn.now) (state g.S.Store c.update_row.new.tx.conn.now) c.args.row.now.rowid at p c.in_ok-changed.changed some (c.in_ok-changed.ensures.done clean inside))
