use Rattle.sqlite.specs.Held.{state}
use Rattle.fv_store_tables.specs.Changes.{found_objects, object_view}
use Rattle.fv_store_tables.specs.Steps.{IsThere}
use Rattle.fv_store_tables.proofs.Replaces.{anyhow, part_over}
use Rattle.fv_store_tables.proofs.rows.put_among.Goals as goal

pub returns-in-Some-clause-done : goal.returns-in-Some-clause-done
returns-in-Some-clause-done g c clean inside =
    part_over (state g.S.Store c.args.tx.now.conn.now) (state g.S.Store c.put_changed.new.tx.conn.now) c.args.id.now c.args.there.now c.in-Some.row.now c.in-Some.ensures.0
    (object_view c.args.object.now) c.put_changed.result (c.put_changed.ensures.done clean inside)

pub returns-in-None-clause-done : goal.returns-in-None-clause-done
returns-in-None-clause-done g c clean inside =
    anyhow (state g.S.Store c.args.tx.now.conn.now) (state g.S.Store c.put_object.new.tx.conn.now) (c.args.id.now, (object_view c.args.object.now).0) (object_view c.args.object.now).1
    (IsThere c.args.id.now (found_objects c.args.there.now) (object_view c.args.object.now)) c.put_object.result (c.put_object.ensures.done clean inside)
