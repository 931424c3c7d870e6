use Rattle.std.proofs.Common.{◌≡◌, List, [], ◌∷◌, ap, string_bytes, subst, IfErr, OnOk, ◌∙◌}
use Rattle.sqlite.specs.Held.{state}
use Rattle.sqlite.specs.Order.{Row}
use Rattle.sqlite.specs.declared.error.Error.{Error}
use Rattle.fv_store_tables.specs.Causes.{HasRooms, IsExcused}
use Rattle.fv_store_tables.specs.Changes.{AllTexts, objects_view}
use Rattle.fv_store_tables.specs.Stands.{TableEntries, TablesStand}
use Rattle.fv_store_tables.specs.Steps.{Advances}
use Rattle.fv_store_upgrade.specs.Steps.{AllApart, EachShort, Named, Puts, new_objects_view, rows_taken}
use Rattle.fv_store_upgrade.proofs.Steps.{put_made, put_excused}
use Rattle.fv_store_upgrade.proofs.migrating.put.Goals as goal

pub returns-clause-done : goal.returns-clause-done
returns-clause-done g c clean inside =
    let r = c.args.record.now in
    let same : objects_view c.in_ok-texts.texts.items ≡ new_objects_view r.rows.objects.items = c.in_ok-texts.ensures ∙ ap new_objects_view c.deref.ensures.value in
    subst (λ (os : AllTexts). OnOk c.put_record.result (Advances (state g.S.Store c.args.tx.now.conn.now) (state g.S.Store c.put_record.new.tx.conn.now) (Puts ((string_bytes r.id, record { form = string_bytes r.rows.form; root = string_bytes r.rows.root; objects = os }) ∷ [])))) same
    (put_made (string_bytes r.id) (string_bytes r.rows.form) (string_bytes r.rows.root) c.in_ok-texts.texts.items (state g.S.Store c.args.tx.now.conn.now) (state g.S.Store c.put_record.new.tx.conn.now) c.put_record.result
    (rw (c.as_str.ensures.value, c.as_str-2.ensures.value, c.as_str-3.ensures.value, c.deref-2.ensures.value) at (c.put_record.ensures.done clean inside)))

pub returns-clause-cause : goal.returns-clause-cause
returns-clause-cause g c clean inside none =
    let r = c.args.record.now in
    let same : objects_view c.in_ok-texts.texts.items ≡ new_objects_view r.rows.objects.items = c.in_ok-texts.ensures ∙ ap new_objects_view c.deref.ensures.value in
    let one : AllTexts → Named = λ os. (string_bytes r.id, record { form = string_bytes r.rows.form; root = string_bytes r.rows.root; objects = os }) in
    let old = state g.S.Store c.args.tx.now.conn.now in
    let new = state g.S.Store c.put_record.new.tx.conn.now in
    subst (λ (os : AllTexts). IfErr c.put_record.result (λ (e : Error). (d : List Row) (m : TableEntries) → TablesStand old.now d m → AllApart (one os ∷ []) → HasRooms (rows_taken (one os ∷ [])) old.now → EachShort (one os ∷ []) → IsExcused old new e)) same
    (put_excused (string_bytes r.id) (string_bytes r.rows.form) (string_bytes r.rows.root) c.in_ok-texts.texts.items old new c.put_record.result
    (rw (c.as_str.ensures.value, c.as_str-2.ensures.value, c.as_str-3.ensures.value, c.deref-2.ensures.value) at (c.put_record.ensures.cause clean inside none)))
