use Rattle.sqlite.specs.Held.{state}
use Rattle.fv_store_tables.proofs.Steps.{inside_frame, inside_keeps}
use Rattle.fv_store_tables.proofs.Creates.{object_step}
use Rattle.fv_store_tables.proofs.CreateCauses.{object_cause}
use Rattle.fv_store_tables.proofs.creating.create_object.Goals as goal

pub returns-clause-done : goal.returns-clause-done
returns-clause-done g c clean inside = object_step (state g.S.Store c.args.tx.now.conn.now) (state g.S.Store c.execute.new.self.conn.now) c.execute.result (c.execute.ensures.runs clean inside)

pub returns-clause-kept : goal.returns-clause-kept
returns-clause-kept g c clean inside = inside_keeps _ _ (state g.S.Store c.args.tx.now.conn.now) (state g.S.Store c.execute.new.self.conn.now) c.execute.result (c.execute.ensures.runs clean inside)

pub returns-clause-frame : goal.returns-clause-frame
returns-clause-frame g c = inside_frame g.S.Store c.args.tx.now.conn.now c.execute.new.self.conn.now _ _ c.execute.result c.execute.ensures.survives c.execute.ensures.ended c.execute.ensures.runs

pub returns-clause-cause : goal.returns-clause-cause
returns-clause-cause g c clean inside none = object_cause (state g.S.Store c.args.tx.now.conn.now) (state g.S.Store c.execute.new.self.conn.now) c.execute.result (c.execute.ensures.runs clean inside)
