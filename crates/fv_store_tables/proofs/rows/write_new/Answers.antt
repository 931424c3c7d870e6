use Rattle.std.proofs.Common.{length, Ok, Err, ◌+◌, ◌∙◌, arith}
use Rattle.sqlite.specs.Held.{state}
use Rattle.fv_store_tables.specs.Changes.{objects_view}
use Rattle.fv_store_tables.specs.Stands.{Head}
use Rattle.fv_store_tables.proofs.Steps.{frame_then, inside_frame, inside_keeps, keeps_then, put_step, then_on_ok}
use Rattle.fv_store_tables.proofs.Composed.{fewer_rooms}
use Rattle.fv_store_tables.proofs.Replaces.{new_written, new_rest_cause}
use Rattle.fv_store_tables.proofs.Refusals.{handed_on}
use Rattle.fv_store_tables.proofs.Writes.{put_cause}
use Rattle.fv_store_tables.proofs.rows.write_new.Goals as goal

pub returns-in_err-execute-clause-kept : goal.returns-in_err-execute-clause-kept
returns-in_err-execute-clause-kept g c clean inside = inside_keeps _ _ (state g.S.Store c.args.tx.now.conn.now) (state g.S.Store c.execute.new.self.conn.now) c.execute.result (c.execute.ensures.runs clean inside)

pub returns-in_err-execute-clause-frame : goal.returns-in_err-execute-clause-frame
returns-in_err-execute-clause-frame g c = inside_frame g.S.Store c.args.tx.now.conn.now c.execute.new.self.conn.now _ _ c.execute.result c.execute.ensures.survives c.execute.ensures.ended c.execute.ensures.runs

pub returns-in_err-execute-clause-cause : goal.returns-in_err-execute-clause-cause
returns-in_err-execute-clause-cause g c clean inside none =
    let h : Head = record { form = c.args.form.now; root = c.args.root.now } in
    handed_on _ c.from_residual.result c.in_err-execute.field-0.0 c.from_residual.ensures.1
    (λ d t spelled new room short _. put_cause (state g.S.Store c.args.tx.now.conn.now) (state g.S.Store c.execute.new.self.conn.now) none c.args.id.now h (c.utf8.id, c.utf8.form, c.utf8.root) (Err c.in_err-execute.field-0.0)
    (rw (c.params-to_sql.ensures, c.params-to_sql-2.ensures, c.params-to_sql-3.ensures) at (c.in_err-execute.ensures.runs clean inside)) d t spelled new.0.1 new.1
    (fewer_rooms 1 (1 + length c.args.objects.now) (state g.S.Store c.args.tx.now.conn.now).now (omega arith) room) short)

pub returns-clause-frame : goal.returns-clause-frame
returns-clause-frame g c =
    frame_then (state g.S.Store c.args.tx.now.conn.now) (state g.S.Store c.execute.new.self.conn.now) (state g.S.Store c.insert_objects.new.tx.conn.now)
    (inside_frame g.S.Store c.args.tx.now.conn.now c.execute.new.self.conn.now _ _ c.execute.result c.execute.ensures.survives c.execute.ensures.ended c.execute.ensures.runs) c.insert_objects.ensures.frame

pub returns-clause-kept : goal.returns-clause-kept
returns-clause-kept g c clean inside =
    let clean2 = c.insert_objects.ensures.frame.clean clean in
    let h : Head = record { form = c.args.form.now; root = c.args.root.now } in
    let first = put_step (state g.S.Store c.args.tx.now.conn.now) (state g.S.Store c.execute.new.self.conn.now) c.args.id.now h (Ok c.in_ok-execute.field-0) (c.utf8.id, c.utf8.form, c.utf8.root) (rw (c.params-to_sql.ensures, c.params-to_sql-2.ensures, c.params-to_sql-3.ensures) at (c.in_ok-execute.ensures.runs clean2 inside)) in
    keeps_then (state g.S.Store c.args.tx.now.conn.now) (state g.S.Store c.execute.new.self.conn.now) (state g.S.Store c.insert_objects.new.tx.conn.now) (inside_keeps _ _ (state g.S.Store c.args.tx.now.conn.now) (state g.S.Store c.execute.new.self.conn.now) c.execute.result (c.execute.ensures.runs clean2 inside)) (c.insert_objects.ensures.kept clean first.mode)

pub returns-clause-done : goal.returns-clause-done
returns-clause-done g c clean inside =
    let clean2 = c.insert_objects.ensures.frame.clean clean in
    let h : Head = record { form = c.args.form.now; root = c.args.root.now } in
    let first = put_step (state g.S.Store c.args.tx.now.conn.now) (state g.S.Store c.execute.new.self.conn.now) c.args.id.now h (Ok c.in_ok-execute.field-0) (c.utf8.id, c.utf8.form, c.utf8.root) (rw (c.params-to_sql.ensures, c.params-to_sql-2.ensures, c.params-to_sql-3.ensures) at (c.in_ok-execute.ensures.runs clean2 inside)) in
    then_on_ok (state g.S.Store c.args.tx.now.conn.now) (state g.S.Store c.execute.new.self.conn.now) (state g.S.Store c.insert_objects.new.tx.conn.now) c.insert_objects.result (new_written c.args.id.now h (objects_view c.args.objects.now) (length c.args.objects.now)) first (c.insert_objects.ensures.done clean first.mode)

pub returns-clause-cause : goal.returns-clause-cause
returns-clause-cause g c clean inside none =
    let clean2 = c.insert_objects.ensures.frame.clean clean in
    let h : Head = record { form = c.args.form.now; root = c.args.root.now } in
    let first = put_step (state g.S.Store c.args.tx.now.conn.now) (state g.S.Store c.execute.new.self.conn.now) c.args.id.now h (Ok c.in_ok-execute.field-0) (c.utf8.id, c.utf8.form, c.utf8.root) (rw (c.params-to_sql.ensures, c.params-to_sql-2.ensures, c.params-to_sql-3.ensures) at (c.in_ok-execute.ensures.runs clean2 inside)) in
    new_rest_cause (state g.S.Store c.args.tx.now.conn.now) (state g.S.Store c.execute.new.self.conn.now) (state g.S.Store c.insert_objects.new.tx.conn.now) c.args.id.now h (objects_view c.args.objects.now) (length c.args.objects.now) clean
    (inside_frame g.S.Store c.args.tx.now.conn.now c.execute.new.self.conn.now _ _ c.execute.result c.execute.ensures.survives c.execute.ensures.ended c.execute.ensures.runs) c.insert_objects.ensures.frame first c.insert_objects.result
    (c.insert_objects.ensures.cause clean first.mode (c.execute.ensures.survives.limit ∙ none))
