use Rattle.std.proofs.Common.{length, ap, ◌∙◌}
use Rattle.sqlite.specs.Held.{state}
use Rattle.sqlite.specs.Values.{bound}
use Rattle.fv_store_tables.proofs.NewObjects.{objects_step, objects_refused, run_some}
use Rattle.fv_store_tables.proofs.Steps.{inside_frame, inside_keeps}
use Rattle.fv_store_tables.proofs.inserting.insert_run.Goals as goal

pub bounds-objects-0 : goal.bounds-objects-0
bounds-objects-0 g c = run_some (length c.args.objects.now) c.requires

pub returns-clause-done : goal.returns-clause-done
returns-clause-done g c clean inside =
    objects_step (state g.S.Store c.args.tx.now.conn.now) (state g.S.Store c.execute.new.self.conn.now) c.args.id.now c.utf8.id c.args.objects.now c.requires c.insert_text.result.now (c.insert_text.ensures c.requires)
    (bound c.deref.result.now) (ap bound c.deref.ensures.value ∙ c.in_ok-values.ensures) c.execute.result (c.execute.ensures.runs clean inside)

pub returns-clause-kept : goal.returns-clause-kept
returns-clause-kept g c clean inside = inside_keeps _ _ (state g.S.Store c.args.tx.now.conn.now) (state g.S.Store c.execute.new.self.conn.now) c.execute.result (c.execute.ensures.runs clean inside)

pub returns-clause-frame : goal.returns-clause-frame
returns-clause-frame g c = inside_frame g.S.Store c.args.tx.now.conn.now c.execute.new.self.conn.now _ _ c.execute.result c.execute.ensures.survives c.execute.ensures.ended c.execute.ensures.runs

pub returns-clause-cause : goal.returns-clause-cause
returns-clause-cause g c clean inside none =
    objects_refused (state g.S.Store c.args.tx.now.conn.now) (state g.S.Store c.execute.new.self.conn.now) c.args.id.now c.utf8.id c.args.objects.now c.requires c.insert_text.result.now (c.insert_text.ensures c.requires)
    (bound c.deref.result.now) (ap bound c.deref.ensures.value ∙ c.in_ok-values.ensures) c.execute.result (c.execute.ensures.runs clean inside) none
