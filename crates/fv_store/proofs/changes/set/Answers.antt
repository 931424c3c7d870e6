use Rattle.sqlite.specs.Held.{state}
use Rattle.fv_bundle.specs.Views.{object_view}
use Rattle.fv_store.specs.Causes.{HasRooms, IsShortObject}
use Rattle.fv_store.specs.Steps.{IsExcused}
use Rattle.fv_store.proofs.Steps.{of_records, set_made}
use Rattle.fv_store.proofs.changes.set.Goals as goal

pub returns-clause-done : goal.returns-clause-done
returns-clause-done g c clean inside =
    set_made c.args.id.now c.args.name.now (object_view c.args.object.now) (state g.S.Store c.args.tx.now.conn.now) (state g.S.Store c.set_object.new.tx.conn.now) c.set_object.result
    (rw (c.type_name.ensures, c.as_str.ensures.value, c.in_ok-fields.ensures) at (c.set_object.ensures.done clean inside))

pub returns-clause-cause : goal.returns-clause-cause
returns-clause-cause g c clean inside none =
    let old = state g.S.Store c.args.tx.now.conn.now in
    let new = state g.S.Store c.set_object.new.tx.conn.now in
    of_records old (λ e. HasRooms 0 old.now → IsShortObject c.args.id.now (c.args.name.now, object_view c.args.object.now) → IsExcused old new e) c.set_object.result
    (rw (c.type_name.ensures, c.as_str.ensures.value, c.in_ok-fields.ensures) at (c.set_object.ensures.cause clean inside none))
