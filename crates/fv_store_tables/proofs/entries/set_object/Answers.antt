use Rattle.sqlite.specs.Held.{state}
use Rattle.fv_store_tables.specs.Stands.{ObjectTexts, tables_of}
use Rattle.fv_store_tables.proofs.Steps.{led}
use Rattle.fv_store_tables.proofs.Objects.{turns_set, owned}
use Rattle.fv_store_tables.proofs.Refusals.{handed_on}
use Rattle.fv_store_tables.proofs.entries.set_object.Goals as goal

pub returns-clause-done : goal.returns-clause-done
returns-clause-done g c clean inside =
    let p : ObjectTexts = record { kind = c.args.kind.now; fields = c.args.fields.now } in
    led (state g.S.Store c.args.tx.now.conn.now) (state g.S.Store c.update_object.new.tx.conn.now) (turns_set c.args.id.now c.args.name.now p _) (c.in_ok-update_object.ensures.done clean inside)

pub returns-in_err-update_object-clause-cause : goal.returns-in_err-update_object-clause-cause
returns-in_err-update_object-clause-cause g c clean inside none =
    handed_on _ c.from_residual.result c.in_err-update_object.field-0.0 c.from_residual.ensures.1
    (λ d m stands. c.in_err-update_object.ensures.cause clean inside none d (tables_of m) stands (owned m))
