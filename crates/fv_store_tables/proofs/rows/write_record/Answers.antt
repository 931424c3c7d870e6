use Rattle.std.proofs.Common.{length, subst, sym, ◌∙◌}
use Rattle.sqlite.specs.Held.{state}
use Rattle.fv_store_tables.specs.Changes.{objects_view}
use Rattle.fv_store_tables.specs.Stands.{Head, ShowsHead}
use Rattle.fv_store_tables.specs.Stored.{head_view}
use Rattle.fv_store_tables.proofs.Heads.{head_read, found_none, found_one, found_none_cause, found_head_cause, found_one_cause}
use Rattle.fv_store_tables.proofs.Refusals.{handed_on}
use Rattle.fv_store_tables.proofs.rows.write_record.Goals as goal

pub returns-in_err-rows-clause-cause : goal.returns-in_err-rows-clause-cause
returns-in_err-rows-clause-cause g c clean inside none =
    handed_on _ c.from_residual.result c.in_err-rows.field-0.0 c.from_residual.ensures.1 (λ d t spelled ready room one short. c.in_err-rows.ensures.cause clean inside none d t spelled)

pub returns-in_err-head-clause-cause : goal.returns-in_err-head-clause-cause
returns-in_err-head-clause-cause g c clean inside none =
    handed_on _ c.from_residual-in_err-head.result c.in_err-head.field-0.0 c.from_residual-in_err-head.ensures.1
    (λ d t spelled ready room one short refused.
    absurd (c.in_err-head.ensures.cause (t.heads c.args.id.now) (subst (λ rows. ShowsHead rows (t.heads c.args.id.now)) (sym c.deref.ensures.value) (c.in_ok-rows.ensures.shown clean inside d t spelled))))

pub returns-in_err-write_head-in-Some-clause-cause : goal.returns-in_err-write_head-in-Some-clause-cause
returns-in_err-write_head-in-Some-clause-cause g c clean inside none =
    let h : Head = record { form = c.args.form.now; root = c.args.root.now } in
    let read = c.in_ok-rows.ensures.done (c.write_head.ensures.frame.clean clean) inside in
    handed_on _ c.from_residual-in_err-write_head-in-Some.result c.in_err-write_head-in-Some.field-0.0 c.from_residual-in_err-write_head-in-Some.ensures.1
    (λ d t spelled ready room one short.
    found_head_cause (state g.S.Store c.args.tx.now.conn.now) (state g.S.Store c.find_head.new.tx.conn.now) (state g.S.Store c.write_head.new.tx.conn.now) c.args.id.now h (length c.args.objects.now)
    clean c.find_head.ensures.frame c.write_head.ensures.frame read c.in_err-write_head-in-Some.field-0.0
    (c.in_err-write_head-in-Some.ensures.cause clean read.mode (c.find_head.ensures.limit ∙ none)) d t spelled ready.1 room one)

pub returns-in-Some-clause-done : goal.returns-in-Some-clause-done
returns-in-Some-clause-done g c clean inside =
    let h : Head = record { form = c.args.form.now; root = c.args.root.now } in
    let clean3 = c.replace_objects.ensures.frame.clean clean in
    let clean2 = c.write_head.ensures.frame.clean clean3 in
    let read = c.in_ok-rows.ensures.done clean2 inside in
    let put = c.in_ok-write_head-in-Some.ensures.done clean3 read.mode in
    found_one (state g.S.Store c.args.tx.now.conn.now) (state g.S.Store c.find_head.new.tx.conn.now) (state g.S.Store c.write_head.new.tx.conn.now) (state g.S.Store c.replace_objects.new.tx.conn.now) c.args.id.now h (head_view c.in-Some.head)
    (objects_view c.args.objects.now) (length c.args.objects.now) c.replace_objects.result (rw c.in-Some.is at (head_read (state g.S.Store c.args.tx.now.conn.now) c.args.id.now c.in_ok-rows.rows.items _ c.in_ok-head.field-0 c.deref.ensures.value (c.in_ok-rows.ensures.shown clean2 inside) c.in_ok-head.ensures.shown)) read put (c.replace_objects.ensures.done clean put.mode)

pub returns-in-Some-clause-cause : goal.returns-in-Some-clause-cause
returns-in-Some-clause-cause g c clean inside none =
    let h : Head = record { form = c.args.form.now; root = c.args.root.now } in
    let clean3 = c.replace_objects.ensures.frame.clean clean in
    let clean2 = c.write_head.ensures.frame.clean clean3 in
    let read = c.in_ok-rows.ensures.done clean2 inside in
    let put = c.in_ok-write_head-in-Some.ensures.done clean3 read.mode in
    found_one_cause (state g.S.Store c.args.tx.now.conn.now) (state g.S.Store c.find_head.new.tx.conn.now) (state g.S.Store c.write_head.new.tx.conn.now) (state g.S.Store c.replace_objects.new.tx.conn.now) c.args.id.now h (head_view c.in-Some.head)
    (objects_view c.args.objects.now) (length c.args.objects.now) clean c.find_head.ensures.frame c.write_head.ensures.frame c.replace_objects.ensures.frame (rw c.in-Some.is at (head_read (state g.S.Store c.args.tx.now.conn.now) c.args.id.now c.in_ok-rows.rows.items _ c.in_ok-head.field-0 c.deref.ensures.value (c.in_ok-rows.ensures.shown clean2 inside) c.in_ok-head.ensures.shown)) read put
    c.replace_objects.result (c.replace_objects.ensures.cause clean put.mode (c.write_head.ensures.limit ∙ c.find_head.ensures.limit ∙ none))

pub returns-clause-done : goal.returns-clause-done
returns-clause-done g c clean inside =
    let h : Head = record { form = c.args.form.now; root = c.args.root.now } in
    let clean2 = c.write_new.ensures.frame.clean clean in
    let read = c.in_ok-rows.ensures.done clean2 inside in
    found_none (state g.S.Store c.args.tx.now.conn.now) (state g.S.Store c.find_head.new.tx.conn.now) (state g.S.Store c.write_new.new.tx.conn.now) c.args.id.now h
    (objects_view c.args.objects.now) (length c.args.objects.now) c.write_new.result (rw c.in-None.is at (head_read (state g.S.Store c.args.tx.now.conn.now) c.args.id.now c.in_ok-rows.rows.items _ c.in_ok-head.field-0 c.deref.ensures.value (c.in_ok-rows.ensures.shown clean2 inside) c.in_ok-head.ensures.shown)) read (c.write_new.ensures.done clean read.mode)

pub returns-clause-cause : goal.returns-clause-cause
returns-clause-cause g c clean inside none =
    let h : Head = record { form = c.args.form.now; root = c.args.root.now } in
    let clean2 = c.write_new.ensures.frame.clean clean in
    let read = c.in_ok-rows.ensures.done clean2 inside in
    found_none_cause (state g.S.Store c.args.tx.now.conn.now) (state g.S.Store c.find_head.new.tx.conn.now) (state g.S.Store c.write_new.new.tx.conn.now) c.args.id.now h
    (objects_view c.args.objects.now) (length c.args.objects.now) clean c.find_head.ensures.frame c.write_new.ensures.frame (rw c.in-None.is at (head_read (state g.S.Store c.args.tx.now.conn.now) c.args.id.now c.in_ok-rows.rows.items _ c.in_ok-head.field-0 c.deref.ensures.value (c.in_ok-rows.ensures.shown clean2 inside) c.in_ok-head.ensures.shown)) read
    c.write_new.result (c.write_new.ensures.cause clean read.mode (c.find_head.ensures.limit ∙ none))
