use Rattle.sqlite.specs.Held.{state}
use Rattle.fv_bundle.specs.Views.{bundle_view}
use Rattle.fv_store.specs.Records.{Kept}
use Rattle.fv_store.proofs.Steps.{put_made, put_excused}
use Rattle.fv_store.proofs.changes.put.Goals as goal

pub returns-clause-done : goal.returns-clause-done
returns-clause-done g c clean inside =
    let k : Kept = record { form = c.args.form.now; bundle = bundle_view c.args.bundle.now } in
    put_made c.args.id.now k _ c.in_ok-objects.ensures.rows c.in_ok-objects.ensures.apart (state g.S.Store c.args.tx.now.conn.now) (state g.S.Store c.put_record.new.tx.conn.now) c.put_record.result (rw (c.root.ensures, c.deref.ensures.value) at (c.put_record.ensures.done clean inside))

pub returns-clause-cause : goal.returns-clause-cause
returns-clause-cause g c clean inside none =
    let k : Kept = record { form = c.args.form.now; bundle = bundle_view c.args.bundle.now } in
    put_excused c.args.id.now k _ c.in_ok-objects.ensures.rows c.in_ok-objects.ensures.apart (state g.S.Store c.args.tx.now.conn.now) (state g.S.Store c.put_record.new.tx.conn.now) c.put_record.result (rw (c.root.ensures, c.deref.ensures.value) at (c.put_record.ensures.cause clean inside none))
