use Rattle.std.proofs.Common.{Some, ap, subst, sym, ◌∙◌}
use Rattle.fv_store_tables.specs.Stands.{ShowsHead, head_of}
use Rattle.fv_store_tables.specs.Stored.{things_view}
use Rattle.fv_store_tables.proofs.Queries.{head_known, head_none, same_kept}
use Rattle.fv_store_tables.proofs.Refusals.{handed_on}
use Rattle.fv_store_tables.proofs.entry.FoundRecord.read.Goals as goal

pub returns-in_err-head-clause-cause : goal.returns-in_err-head-clause-cause
returns-in_err-head-clause-cause c =
    handed_on _ c.from_residual.result c.in_err-head.field-0.0 c.from_residual.ensures.1
    (λ o shows refused. c.in_err-head.ensures.cause (head_of o) (subst (λ rows. ShowsHead rows (head_of o)) (sym c.deref.ensures.value) shows.0))

pub returns-in_err-objects_in-in-Some-clause-cause : goal.returns-in_err-objects_in-in-Some-clause-cause
returns-in_err-objects_in-in-Some-clause-cause c =
    handed_on _ c.from_residual-in_err-objects_in-in-Some.result c.in_err-objects_in-in-Some.field-0.0 c.from_residual-in_err-objects_in-in-Some.ensures.1
    (λ o shows.
    let head = rw c.in-Some.is at (c.in_ok-head.ensures.shown (head_of o) (subst (λ rows. ShowsHead rows (head_of o)) (sym c.deref.ensures.value) shows.0)) in
    let known = head_known o _ head in
    let it = shows.1 known.0 known.1 in
    c.in_err-objects_in-in-Some.ensures.cause known.0.objects (c.deref-in-Some.ensures.value ∙ it.0) it.1)

pub returns-in_ok-objects_in-in-Some-clause-shown : goal.returns-in_ok-objects_in-in-Some-clause-shown
returns-in_ok-objects_in-in-Some-clause-shown c o shows =
    let head = rw c.in-Some.is at (c.in_ok-head.ensures.shown (head_of o) (subst (λ rows. ShowsHead rows (head_of o)) (sym c.deref.ensures.value) shows.0)) in
    let known = head_known o _ head in
    let objects = c.in_ok-objects_in-in-Some.ensures.shown known.0.objects (c.deref-in-Some.ensures.value ∙ (shows.1 known.0 known.1).0) in
    ap Some (same_kept known.0 c.in-Some.head.form.now c.in-Some.head.root.now (things_view c.in_ok-objects_in-in-Some.field-0.items) known.2 known.3 objects) ∙ sym known.1

pub returns-in-None-clause-shown : goal.returns-in-None-clause-shown
returns-in-None-clause-shown c o shows = head_none o (rw c.in-None.is at (c.in_ok-head.ensures.shown (head_of o) (subst (λ rows. ShowsHead rows (head_of o)) (sym c.deref.ensures.value) shows.0)))

pub returns-in-None-clause-none : goal.returns-in-None-clause-none
returns-in-None-clause-none c none = sym c.deref.ensures.value ∙ c.in_ok-head.ensures.none c.in-None.is
