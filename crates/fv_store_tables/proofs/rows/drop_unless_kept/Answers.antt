use Rattle.std.proofs.Common.{◌≡◌, false, true, sym, ◌∙◌}
use Rattle.sqlite.specs.Held.{state}
use Rattle.fv_store_tables.specs.Changes.{has_name, objects_view}
use Rattle.fv_store_tables.proofs.Drops.{drop_step, drop_cause}
use Rattle.fv_store_tables.proofs.Replaces.{not_dropped, unkept_dropped}
use Rattle.fv_store_tables.proofs.Steps.{inside_frame, inside_keeps}
use Rattle.fv_store_tables.proofs.rows.drop_unless_kept.Goals as goal

pub returns-then-has_name-clause-done : goal.returns-then-has_name-clause-done
returns-then-has_name-clause-done g c clean inside =
    let os = objects_view c.args.objects.now in
    let name = c.args.name.now in
    let has : has_name name os ≡ true = sym c.has_name.ensures ∙ c.if-has_name.true in
    not_dropped (state g.S.Store c.args.tx.now.conn.now) c.args.id.now os name has inside

pub returns-clause-done : goal.returns-clause-done
returns-clause-done g c clean inside =
    let os = objects_view c.args.objects.now in
    let name = c.args.name.now in
    let other : has_name name os ≡ false = sym c.has_name.ensures ∙ c.if-has_name.false in
    unkept_dropped (state g.S.Store c.args.tx.now.conn.now) (state g.S.Store c.execute.new.self.conn.now) c.args.id.now os name other c.execute.result
    (drop_step (state g.S.Store c.args.tx.now.conn.now) (state g.S.Store c.execute.new.self.conn.now) (c.args.id.now, name) c.execute.result (rw c.as_bytes.ensures.value at (c.execute.ensures.runs clean inside)))

pub returns-clause-kept : goal.returns-clause-kept
returns-clause-kept g c clean inside = inside_keeps _ _ (state g.S.Store c.args.tx.now.conn.now) (state g.S.Store c.execute.new.self.conn.now) c.execute.result (c.execute.ensures.runs clean inside)

pub returns-clause-frame : goal.returns-clause-frame
returns-clause-frame g c = inside_frame g.S.Store c.args.tx.now.conn.now c.execute.new.self.conn.now _ _ c.execute.result c.execute.ensures.survives c.execute.ensures.ended c.execute.ensures.runs

pub returns-clause-cause : goal.returns-clause-cause
returns-clause-cause g c clean inside none =
    drop_cause (state g.S.Store c.args.tx.now.conn.now) (state g.S.Store c.execute.new.self.conn.now) none (c.args.id.now, c.args.name.now) c.execute.result (rw c.as_bytes.ensures.value at (c.execute.ensures.runs clean inside))
