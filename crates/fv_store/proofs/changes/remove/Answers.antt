use Rattle.sqlite.specs.Held.{state}
use Rattle.fv_store.specs.Steps.{IsExcused}
use Rattle.fv_store.proofs.Steps.{of_records, remove_made}
use Rattle.fv_store.proofs.changes.remove.Goals as goal

pub returns-clause-done : goal.returns-clause-done
returns-clause-done g c clean inside =
    remove_made c.args.id.now (state g.S.Store c.args.tx.now.conn.now) (state g.S.Store c.remove_record.new.tx.conn.now) c.remove_record.result (c.remove_record.ensures.done clean inside)

pub returns-clause-cause : goal.returns-clause-cause
returns-clause-cause g c clean inside none =
    let old = state g.S.Store c.args.tx.now.conn.now in
    of_records old (IsExcused old (state g.S.Store c.remove_record.new.tx.conn.now)) c.remove_record.result (c.remove_record.ensures.cause clean inside none)
