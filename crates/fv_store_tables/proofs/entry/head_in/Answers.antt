use Rattle.std.proofs.Common.{Some, ap, sym, ◌∙◌}
use Rattle.fv_store_tables.proofs.Queries.{no_first, none_first, same_head, some_first}
use Rattle.fv_store_tables.proofs.Refusals.{handed_on}
use Rattle.fv_store_tables.proofs.entry.head_in.Goals as goal

pub returns-in_ok-read_head-in-Some-clause-shown : goal.returns-in_ok-read_head-in-Some-clause-shown
returns-in_ok-read_head-in-Some-clause-shown c o shows =
    let first = some_first _ _ c.in-Some.row.now (rw c.in-Some.is at c.first.ensures.value) shows in
    ap Some (same_head c.in-Some.row.now _ first.0 c.in_ok-read_head-in-Some.ensures.shown first.2) ∙ sym first.1

pub returns-in-None-clause-shown : goal.returns-in-None-clause-shown
returns-in-None-clause-shown c o shows = none_first _ _ (rw c.in-None.is at c.first.ensures.value) shows

pub returns-in_err-read_head-in-Some-clause-cause : goal.returns-in_err-read_head-in-Some-clause-cause
returns-in_err-read_head-in-Some-clause-cause c =
    handed_on _ c.from_residual.result c.in_err-read_head-in-Some.field-0.0 c.from_residual.ensures.1
    (λ o shows.
    let first = some_first _ _ c.in-Some.row.now (rw c.in-Some.is at c.first.ensures.value) shows in
    c.in_err-read_head-in-Some.ensures.cause first.0 first.2 first.3)

pub returns-in-None-clause-none : goal.returns-in-None-clause-none
returns-in-None-clause-none c none = no_first _ (rw c.in-None.is at c.first.ensures.value)
