use Rattle.std.proofs.Common.{inl, sym}
use Rattle.sqlite.specs.Held.{state}
use Rattle.fv_store.specs.Faults.{open_fault_of}
use Rattle.fv_store.proofs.Openings.{about_had, about_first, about_never, taken_all, caused_all, excused_all, is_refusal, none_unread, odd_unread}
use Rattle.fv_store.proofs.Refusals.{handed_on}
use Rattle.fv_store.specs.Stored.{about_view}
use Rattle.fv_store.proofs.opening.stored.Goals as goal

pub returns-in-Some-clause-taken : goal.returns-in-Some-clause-taken
returns-in-Some-clause-taken g c clean =
    taken_all (state g.S.Store c.args.conn.now) c.in-Some.row.now c.about_in.result c.about_in.ensures.taken
    (λ version d tells. c.about_in.ensures.told version d (about_first _ version d c.in-Some.row.now (rw (c.in-Some.is, c.deref.ensures.value) at c.first.ensures.value) ((c.in_ok-rows.ensures.shown clean).1 version d tells)))

pub returns-in-Some-clause-cause : goal.returns-in-Some-clause-cause
returns-in-Some-clause-cause g c clean filled =
    caused_all about_view (state g.S.Store c.args.conn.now) c.in-Some.row.now c.about_in.result (c.in_ok-rows.ensures.shown clean).0 filled
    (c.in_ok-rows.ensures.first clean c.in-Some.row.now (sym (rw (c.in-Some.is, c.deref.ensures.value) at c.first.ensures.value))) c.about_in.ensures.other
    (λ version d tells. c.about_in.ensures.told version d (about_first _ version d c.in-Some.row.now (rw (c.in-Some.is, c.deref.ensures.value) at c.first.ensures.value) ((c.in_ok-rows.ensures.shown clean).1 version d tells)))

pub returns-in_err-rows-clause-store_known : goal.returns-in_err-rows-clause-store_known
returns-in_err-rows-clause-store_known g c clean none =
    handed_on _ c.from_residual.result (open_fault_of c.in_err-rows.field-0.0) c.from_residual.ensures.1
    (λ version d tells is. c.in_err-rows.ensures.cause clean none tells.0 (is_refusal c.in_err-rows.field-0.0 is))

pub returns-in-Some-clause-store_known : goal.returns-in-Some-clause-store_known
returns-in-Some-clause-store_known g c clean none =
    excused_all about_view (state g.S.Store c.args.conn.now) (state g.S.Store c.read_about.new.conn) c.about_in.result
    (λ version d tells. c.about_in.ensures.told version d (about_first _ version d c.in-Some.row.now (rw (c.in-Some.is, c.deref.ensures.value) at c.first.ensures.value) ((c.in_ok-rows.ensures.shown clean).1 version d tells)))

pub returns-clause-store_known : goal.returns-clause-store_known
returns-clause-store_known g c clean none version d tells is =
    absurd (about_never _ version d (rw (c.in-None.is, c.deref.ensures.value) at c.first.ensures.value) ((c.in_ok-rows.ensures.shown clean).1 version d tells))

pub returns-in-Some-clause-kept : goal.returns-in-Some-clause-kept
returns-in-Some-clause-kept g c clean =
    about_had (state g.S.Store c.args.conn.now) c.in-Some.row.now c.about_in.result
    (c.in_ok-rows.ensures.first clean c.in-Some.row.now (sym (rw (c.in-Some.is, c.deref.ensures.value) at c.first.ensures.value))) c.about_in.ensures.taken

pub returns-in_err-rows-clause-unread : goal.returns-in_err-rows-clause-unread
returns-in_err-rows-clause-unread g c clean =
    let e = c.in_err-rows.field-0.0 in
    handed_on _ c.from_residual.result (open_fault_of e) c.from_residual.ensures.1 (λ is. inl (e, is_refusal e is, c.in_err-rows.ensures.err clean))

pub returns-in-Some-clause-unread : goal.returns-in-Some-clause-unread
returns-in-Some-clause-unread g c clean =
    odd_unread (state g.S.Store c.args.conn.now) (state g.S.Store c.read_about.new.conn) c.in-Some.row.now c.about_in.result
    (c.in_ok-rows.ensures.first clean c.in-Some.row.now (sym (rw (c.in-Some.is, c.deref.ensures.value) at c.first.ensures.value))) c.about_in.ensures.store

pub returns-clause-unread : goal.returns-clause-unread
returns-clause-unread g c clean is =
    none_unread (state g.S.Store c.args.conn.now) (state g.S.Store c.read_about.new.conn) _ (rw (c.in-None.is, c.deref.ensures.value) at c.first.ensures.value) (c.in_ok-rows.ensures.ok clean)
