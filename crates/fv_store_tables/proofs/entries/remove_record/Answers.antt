use Rattle.sqlite.specs.Held.{state}
use Rattle.fv_store_tables.specs.Stands.{tables_of}
use Rattle.fv_store_tables.proofs.Steps.{led}
use Rattle.fv_store_tables.proofs.Objects.{turns_removed, owned}
use Rattle.fv_store_tables.proofs.Refusals.{handed_on}
use Rattle.fv_store_tables.proofs.entries.remove_record.Goals as goal

pub returns-clause-done : goal.returns-clause-done
returns-clause-done g c clean inside =
    led (state g.S.Store c.args.tx.now.conn.now) (state g.S.Store c.delete_record.new.tx.conn.now) (turns_removed c.args.id.now) (c.in_ok-delete_record.ensures.done clean inside)

pub returns-in_err-delete_record-clause-cause : goal.returns-in_err-delete_record-clause-cause
returns-in_err-delete_record-clause-cause g c clean inside none =
    handed_on _ c.from_residual.result c.in_err-delete_record.field-0.0 c.from_residual.ensures.1
    (λ d m stands. c.in_err-delete_record.ensures.cause clean inside none d (tables_of m) stands (owned m))
