use Rattle.std.proofs.lemmas.Str.{IsUtf8-had, IsUtf8-string_bytes}
use Rattle.sqlite.specs.Held.{state}
use Rattle.fv_store_tables.specs.Changes.{object_view}
use Rattle.fv_store_tables.proofs.RowUpdates.{row_step, row_cause}
use Rattle.fv_store_tables.proofs.Steps.{inside_frame, inside_keeps}
use Rattle.fv_store_tables.proofs.rows.update_row.Goals as goal

pub returns-clause-done : goal.returns-clause-done
returns-clause-done g c clean inside =
    let o = c.args.object.now in
    row_step (state g.S.Store c.args.tx.now.conn.now) (state g.S.Store c.execute.new.self.conn.now) c.args.row.now.rowid (c.args.id.now, (object_view o).0) (object_view o).1 c.execute.result
    (c.utf8.id, IsUtf8-had _ o.name_text, IsUtf8-had _ o.kind_text, IsUtf8-string_bytes o.fields)
    (rw (c.params-to_sql.ensures, c.params-to_sql-2.ensures, c.params-to_sql-3.ensures, c.params-to_sql-4.ensures, c.params-to_sql-5.ensures) at (c.execute.ensures.runs clean inside))

pub returns-clause-kept : goal.returns-clause-kept
returns-clause-kept g c clean inside = inside_keeps _ _ (state g.S.Store c.args.tx.now.conn.now) (state g.S.Store c.execute.new.self.conn.now) c.execute.result (c.execute.ensures.runs clean inside)

pub returns-clause-frame : goal.returns-clause-frame
returns-clause-frame g c = inside_frame g.S.Store c.args.tx.now.conn.now c.execute.new.self.conn.now _ _ c.execute.result c.execute.ensures.survives c.execute.ensures.ended c.execute.ensures.runs

pub returns-clause-cause : goal.returns-clause-cause
returns-clause-cause g c clean inside none =
    let o = c.args.object.now in
    row_cause (state g.S.Store c.args.tx.now.conn.now) (state g.S.Store c.execute.new.self.conn.now) none c.args.row.now.rowid (c.args.id.now, (object_view o).0) (object_view o).1
    (c.utf8.id, IsUtf8-had _ o.name_text, IsUtf8-had _ o.kind_text, IsUtf8-string_bytes o.fields) c.execute.result
    (rw (c.params-to_sql.ensures, c.params-to_sql-2.ensures, c.params-to_sql-3.ensures, c.params-to_sql-4.ensures, c.params-to_sql-5.ensures) at (c.execute.ensures.runs clean inside))
