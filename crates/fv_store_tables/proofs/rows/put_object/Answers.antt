use Rattle.std.proofs.Common.{◌≢◌, ◌∙◌, arith}
use Rattle.sqlite.specs.Held.{state}
use Rattle.fv_store_tables.specs.Changes.{object_view}
use Rattle.fv_store_tables.specs.Stands.{ObjectTexts, ObjectKey}
use Rattle.fv_store_tables.proofs.Composed.{fewer_rooms}
use Rattle.fv_store_tables.proofs.Steps.{then_on_ok}
use Rattle.fv_store_tables.proofs.NewObjects.{one_added, one_refused}
use Rattle.fv_store_tables.proofs.Replaces.{part_new, part_in_place, part_new_cause}
use Rattle.fv_store_tables.proofs.Refusals.{handed_on}
use Rattle.fv_store_tables.proofs.rows.put_object.Goals as goal

pub returns-in_err-changed-clause-cause : goal.returns-in_err-changed-clause-cause
returns-in_err-changed-clause-cause g c clean inside none =
    handed_on _ c.from_residual.result c.in_err-changed.field-0.0 c.from_residual.ensures.1
    (λ d t spelled owned has room short. rw c.deref.ensures at (c.in_err-changed.ensures.cause clean inside none) d t spelled owned
    (fewer_rooms 0 1 (state g.S.Store c.args.tx.now.conn.now).now (omega arith) room) short)

pub returns-in-0-clause-done : goal.returns-in-0-clause-done
returns-in-0-clause-done g c clean inside =
    let at : ObjectKey = (c.args.id.now, (object_view c.args.object.now).0) in
    let p : ObjectTexts = (object_view c.args.object.now).1 in
    let updated = rw c.in-0.is at (rw c.deref.ensures at (c.in_ok-changed.ensures.done (c.insert_run.ensures.frame.clean clean) inside)) in
    then_on_ok (state g.S.Store c.args.tx.now.conn.now) (state g.S.Store c.update_object.new.tx.conn.now) (state g.S.Store c.insert_run.new.tx.conn.now) c.insert_run.result
    (part_new at p) updated (one_added (state g.S.Store c.update_object.new.tx.conn.now) (state g.S.Store c.insert_run.new.tx.conn.now) c.args.id.now (object_view c.args.object.now) c.insert_run.result (rw c.from_ref.ensures.value at (c.insert_run.ensures.done clean updated.mode)))

pub returns-in-0-clause-cause : goal.returns-in-0-clause-cause
returns-in-0-clause-cause g c clean inside none =
    let at : ObjectKey = (c.args.id.now, (object_view c.args.object.now).0) in
    let p : ObjectTexts = (object_view c.args.object.now).1 in
    let updated = rw c.in-0.is at (rw c.deref.ensures at (c.in_ok-changed.ensures.done (c.insert_run.ensures.frame.clean clean) inside)) in
    part_new_cause (state g.S.Store c.args.tx.now.conn.now) (state g.S.Store c.update_object.new.tx.conn.now) (state g.S.Store c.insert_run.new.tx.conn.now) at p clean c.update_object.ensures.frame c.insert_run.ensures.frame updated c.insert_run.result
    (one_refused (state g.S.Store c.update_object.new.tx.conn.now) (state g.S.Store c.insert_run.new.tx.conn.now) c.args.id.now (object_view c.args.object.now) c.insert_run.result (rw c.from_ref.ensures.value at (c.insert_run.ensures.cause clean updated.mode (c.update_object.ensures.limit ∙ none))))

pub returns-in_default-clause-done : goal.returns-in_default-clause-done
returns-in_default-clause-done g c clean inside =
    let at : ObjectKey = (c.args.id.now, (object_view c.args.object.now).0) in
    let p : ObjectTexts = (object_view c.args.object.now).1 in
    let some : c.in_ok-changed.changed ≢ 0 = assumption c.in_default in
    part_in_place (state g.S.Store c.args.tx.now.conn.now) (state g.S.Store c.update_object.new.tx.conn.now) at p c.in_ok-changed.changed some
    (rw c.deref.ensures at (c.in_ok-changed.ensures.done clean inside))
