use Rattle.fv_engine_pending.specs.Ways.{pending_view}
use Rattle.fv_engine_machine.proofs.Changes.{all_rows, set_after, set_fit, set_rows}
use Rattle.fv_engine_machine.proofs.changing.changes_of.Goals as goal

pub returns-in-Some-clause-after : goal.returns-in-Some-clause-after
returns-in-Some-clause-after c = rw c.in-Some.is (set_after c.in-Some.object.now (pending_view c.args.pending) c.into_object.result c.into_object.ensures.after)

pub returns-in-Some-clause-fit : goal.returns-in-Some-clause-fit
returns-in-Some-clause-fit c = rw c.in-Some.is (set_fit c.in-Some.object.now (pending_view c.args.pending) c.into_object.result c.into_object.ensures.fit)

pub returns-in-Some-clause-rows : goal.returns-in-Some-clause-rows
returns-in-Some-clause-rows c = rw c.in-Some.is (set_rows c.in-Some.object.now (pending_view c.args.pending) c.into_object.result c.into_object.ensures.none)

pub returns-in-None-clause-rows : goal.returns-in-None-clause-rows
returns-in-None-clause-rows c = rw c.in-None.is (all_rows (pending_view c.args.pending) c.into_changes.result c.into_changes.ensures.rows)
