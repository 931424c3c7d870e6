use Rattle.std.proofs.Common.{◌+◌, length}
use Rattle.sqlite.specs.Held.{state}
use Rattle.fv_store_tables.specs.Changes.{objects_view}
use Rattle.fv_store_tables.specs.Stands.{Entry, tables_of}
use Rattle.fv_store_tables.proofs.Composed.{more_on_err}
use Rattle.fv_store_tables.proofs.Steps.{led_on_ok}
use Rattle.fv_store_tables.proofs.Objects.{turns_put, owned}
use Rattle.fv_store_tables.proofs.entries.put_record.Goals as goal

pub returns-clause-done : goal.returns-clause-done
returns-clause-done g c clean inside =
    let k : Entry = record { form = c.args.form.now; root = c.args.root.now; objects = objects_view c.args.objects.now } in
    led_on_ok (state g.S.Store c.args.tx.now.conn.now) (state g.S.Store c.write_record.new.tx.conn.now) c.write_record.result (turns_put c.args.id.now k (1 + length c.args.objects.now)) (c.write_record.ensures.done clean inside)

pub returns-clause-cause : goal.returns-clause-cause
returns-clause-cause g c clean inside none =
    more_on_err _ _ c.write_record.result (λ e told d m stands apart. told d (tables_of m) stands (apart, owned m)) (c.write_record.ensures.cause clean inside none)
