use Rattle.std.proofs.Common.{Ok, Err, length, ◌∙◌}
use Rattle.sqlite.specs.Held.{state}
use Rattle.fv_store_tables.specs.Changes.{found_objects, objects_view}
use Rattle.fv_store_tables.proofs.Parts.{parts_found, parts_read}
use Rattle.fv_store_tables.proofs.RangeReplaces.{range_replaced, range_replaced_cause}
use Rattle.fv_store_tables.proofs.Replaces.{replace_step, others_cause, rest_put_cause}
use Rattle.fv_store_tables.proofs.Refusals.{handed_on}
use Rattle.fv_store_tables.proofs.rows.replace_objects.Goals as goal

pub returns-clause-done : goal.returns-clause-done
returns-clause-done g c clean inside =
    let clean3 = c.put_objects.ensures.frame.clean clean in
    let clean2 = c.drop_others.ensures.frame.clean clean3 in
    let found = parts_found (state g.S.Store c.args.tx.now.conn.now) c.args.id.now c.in_ok-rows.rows.items _ (Ok c.in_ok-there.there) c.deref.ensures.value (c.in_ok-rows.ensures.shown clean2 inside) c.in_ok-there.ensures.shown in
    let read = c.in_ok-rows.ensures.done clean2 inside in
    let left = rw c.deref-3.ensures.value at (c.in_ok-drop_others.ensures.done clean3 read.mode) in
    replace_step (state g.S.Store c.args.tx.now.conn.now) (state g.S.Store c.find_parts.new.tx.conn.now) (state g.S.Store c.drop_others.new.tx.conn.now) (state g.S.Store c.put_objects.new.tx.conn.now) c.args.id.now
    (objects_view c.args.objects.now) (found_objects c.in_ok-there.there.items) (length c.args.objects.now) c.put_objects.result (λ d t spelled. (found d t spelled).1) read left
    (rw c.deref-4.ensures.value at (c.put_objects.ensures.done clean left.mode))

pub returns-in_err-rows-clause-cause : goal.returns-in_err-rows-clause-cause
returns-in_err-rows-clause-cause g c clean inside none =
    handed_on _ c.from_residual.result c.in_err-rows.field-0.0 c.from_residual.ensures.1 (λ d t spelled apart owned has room short. c.in_err-rows.ensures.cause clean inside none d t spelled)

pub returns-in_err-there-clause-cause : goal.returns-in_err-there-clause-cause
returns-in_err-there-clause-cause g c clean inside none =
    let read = parts_read (state g.S.Store c.args.tx.now.conn.now) (state g.S.Store c.find_parts.new.tx.conn.now) c.args.id.now c.in_ok-rows.rows.items _ (Err c.in_err-there.field-0.0) c.deref.ensures.value (c.in_ok-rows.ensures.shown clean inside) c.in_err-there.ensures.cause in
    handed_on _ c.from_residual-in_err-there.result c.in_err-there.field-0.0 c.from_residual-in_err-there.ensures.1 (λ d t spelled apart owned has room short. read d t spelled)

pub returns-in_err-drop_others-clause-cause : goal.returns-in_err-drop_others-clause-cause
returns-in_err-drop_others-clause-cause g c clean inside none =
    let clean2 = c.drop_others.ensures.frame.clean clean in
    let read = c.in_ok-rows.ensures.done clean2 inside in
    handed_on _ c.from_residual-in_err-drop_others.result c.in_err-drop_others.field-0.0 c.from_residual-in_err-drop_others.ensures.1
    (λ d t spelled apart owned has room short. others_cause (state g.S.Store c.args.tx.now.conn.now) (state g.S.Store c.find_parts.new.tx.conn.now) (state g.S.Store c.drop_others.new.tx.conn.now) clean
    c.find_parts.ensures.frame c.drop_others.ensures.frame read c.in_err-drop_others.field-0.0 (c.in_err-drop_others.ensures.cause clean read.mode (c.find_parts.ensures.limit ∙ none)) d t spelled owned)

pub returns-clause-cause : goal.returns-clause-cause
returns-clause-cause g c clean inside none =
    let clean3 = c.put_objects.ensures.frame.clean clean in
    let clean2 = c.drop_others.ensures.frame.clean clean3 in
    let found = parts_found (state g.S.Store c.args.tx.now.conn.now) c.args.id.now c.in_ok-rows.rows.items _ (Ok c.in_ok-there.there) c.deref.ensures.value (c.in_ok-rows.ensures.shown clean2 inside) c.in_ok-there.ensures.shown in
    let read = c.in_ok-rows.ensures.done clean2 inside in
    let left = rw c.deref-3.ensures.value at (c.in_ok-drop_others.ensures.done clean3 read.mode) in
    rest_put_cause (state g.S.Store c.args.tx.now.conn.now) (state g.S.Store c.find_parts.new.tx.conn.now) (state g.S.Store c.drop_others.new.tx.conn.now) (state g.S.Store c.put_objects.new.tx.conn.now) c.args.id.now
    (objects_view c.args.objects.now) (found_objects c.in_ok-there.there.items) (length c.args.objects.now) clean c.find_parts.ensures.frame c.drop_others.ensures.frame c.put_objects.ensures.frame (λ d t spelled. (found d t spelled).1) read left
    c.put_objects.result (rw c.deref-4.ensures.value at (c.put_objects.ensures.cause clean left.mode (c.drop_others.ensures.limit ∙ c.find_parts.ensures.limit ∙ none)))

pub returns-then-is_range-clause-done : goal.returns-then-is_range-clause-done
returns-then-is_range-clause-done g c clean inside =
    let clean2 = c.update_range.ensures.frame.clean clean in
    let found = parts_found (state g.S.Store c.args.tx.now.conn.now) c.args.id.now c.in_ok-rows.rows.items _ (Ok c.in_ok-there.there) c.deref.ensures.value (c.in_ok-rows.ensures.shown clean2 inside) c.in_ok-there.ensures.shown in
    let read = c.in_ok-rows.ensures.done clean2 inside in
    range_replaced (state g.S.Store c.args.tx.now.conn.now) (state g.S.Store c.find_parts.new.tx.conn.now) (state g.S.Store c.update_range.new.tx.conn.now) c.args.id.now c.in_ok-there.there.items (objects_view c.args.objects.now)
    (length c.args.objects.now) (rw c.deref-2.ensures.value at (c.is_range.ensures c.if-is_range.true)) found read
    (rw c.deref-then-is_range.ensures.value at (c.in_ok-update_range.ensures.done clean read.mode))

pub returns-in_err-update_range-clause-cause : goal.returns-in_err-update_range-clause-cause
returns-in_err-update_range-clause-cause g c clean inside none =
    let clean2 = c.update_range.ensures.frame.clean clean in
    let found = parts_found (state g.S.Store c.args.tx.now.conn.now) c.args.id.now c.in_ok-rows.rows.items _ (Ok c.in_ok-there.there) c.deref.ensures.value (c.in_ok-rows.ensures.shown clean2 inside) c.in_ok-there.ensures.shown in
    let read = c.in_ok-rows.ensures.done clean2 inside in
    handed_on _ c.from_residual-in_err-update_range.result c.in_err-update_range.field-0.0 c.from_residual-in_err-update_range.ensures.1
    (range_replaced_cause (state g.S.Store c.args.tx.now.conn.now) (state g.S.Store c.find_parts.new.tx.conn.now) (state g.S.Store c.update_range.new.tx.conn.now) c.args.id.now c.in_ok-there.there.items (objects_view c.args.objects.now)
    (length c.args.objects.now) (rw c.deref-2.ensures.value at (c.is_range.ensures c.if-is_range.true)) found read clean c.find_parts.ensures.frame c.update_range.ensures.frame c.in_err-update_range.field-0.0
    (rw c.deref-then-is_range.ensures.value at (c.in_err-update_range.ensures.cause clean read.mode (c.find_parts.ensures.limit ∙ none))))
