use Rattle.sqlite.specs.Held.{state}
use Rattle.fv_store_tables.specs.Stands.{Head}
use Rattle.fv_store_tables.specs.Stored.{head_view}
use Rattle.fv_store_tables.proofs.Heads.{head_written}
use Rattle.fv_store_tables.proofs.InPlace.{head_step}
use Rattle.fv_store_tables.proofs.InPlaceCauses.{head_cause}
use Rattle.fv_store_tables.proofs.Steps.{inside_frame, inside_keeps}
use Rattle.fv_store_tables.proofs.rows.write_head.Goals as goal

pub returns-clause-done : goal.returns-clause-done
returns-clause-done g c clean inside =
    let h : Head = record { form = c.args.form.now; root = c.args.root.now } in
    head_written (state g.S.Store c.args.tx.now.conn.now) (state g.S.Store c.execute.new.self.conn.now) c.args.id.now h (head_view c.args.head.now) c.execute.result
    (head_step (state g.S.Store c.args.tx.now.conn.now) (state g.S.Store c.execute.new.self.conn.now) c.args.id.now h c.execute.result (c.utf8.id, c.utf8.form, c.utf8.root)
    (rw (c.params-to_sql.ensures, c.params-to_sql-2.ensures, c.params-to_sql-3.ensures) at (c.execute.ensures.runs clean inside)))

pub returns-clause-kept : goal.returns-clause-kept
returns-clause-kept g c clean inside = inside_keeps _ _ (state g.S.Store c.args.tx.now.conn.now) (state g.S.Store c.execute.new.self.conn.now) c.execute.result (c.execute.ensures.runs clean inside)

pub returns-clause-frame : goal.returns-clause-frame
returns-clause-frame g c = inside_frame g.S.Store c.args.tx.now.conn.now c.execute.new.self.conn.now _ _ c.execute.result c.execute.ensures.survives c.execute.ensures.ended c.execute.ensures.runs

pub returns-clause-cause : goal.returns-clause-cause
returns-clause-cause g c clean inside none =
    let h : Head = record { form = c.args.form.now; root = c.args.root.now } in
    head_cause (state g.S.Store c.args.tx.now.conn.now) (state g.S.Store c.execute.new.self.conn.now) none c.args.id.now h (c.utf8.id, c.utf8.form, c.utf8.root) c.execute.result
    (rw (c.params-to_sql.ensures, c.params-to_sql-2.ensures, c.params-to_sql-3.ensures) at (c.execute.ensures.runs clean inside))
