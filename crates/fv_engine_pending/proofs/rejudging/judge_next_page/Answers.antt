use Rattle.std.proofs.Common.{◌≡◌, ◌<◌, ◌≤◌, ℕ, IfSome, length, map, string_bytes, sym, subst, ◌∙◌}
use Rattle.std.proofs.lemmas.Int.{to_z-of_z}
use Rattle.std.proofs.lemmas.List.{length-map}
use Rattle.std.proofs.lemmas.Result.{err_from_is_err_and}
use mir.Syntax.{w64}
use Rattle.fv_engine_pending.specs.Passes.{AreSo, NextFails, OnlyReads, Sure}
use Rattle.fv_engine_pending.specs.Rejudging.{IsOfRecord}
use Rattle.fv_engine_pending.proofs.Pages.{Pages}
use Rattle.fv_engine_pending.proofs.Passes.{next_done, next_failed, next_store, no_record, pages_of, reads_then, PageDone}
use Rattle.fv_store.specs.Stands.{IsLive}
use Rattle.fv_store.specs.Stock.{stock_state}
use Rattle.fv_engine_pending.proofs.rejudging.judge_next_page.Goals as goal

pub returns-in_err-ids-clause-open : goal.returns-in_err-ids-clause-open
returns-in_err-ids-clause-open g c =
    let e = err_from_is_err_and c.from_residual.result c.from_residual.ensures.1 in
    rw e.1 (λ of. absurd {A = IsLive (stock_state g.S.Store c.ids.new.self)} (no_record c.in_err-ids.field-0.0 (subst IsOfRecord e.2 of)))

pub returns-in_err-ids-clause-read : goal.returns-in_err-ids-clause-read
returns-in_err-ids-clause-read g c =
    let e = err_from_is_err_and c.from_residual.result c.from_residual.ensures.1 in
    rw e.1 (subst (NextFails c.args.book.now (stock_state g.S.Store c.args.store.now) (stock_state g.S.Store c.ids.new.self) c.args.above.now) (sym e.2)
    (next_store c.args.book.now (stock_state g.S.Store c.args.store.now) (stock_state g.S.Store c.ids.new.self) c.args.above.now c.in_err-ids.field-0.0 (λ clean. c.in_err-ids.ensures.cause clean)))

pub returns-in_err-judge_page-clause-reads : goal.returns-in_err-judge_page-clause-reads
returns-in_err-judge_page-clause-reads g c =
    let asked : OnlyReads (stock_state g.S.Store c.args.store.now) (stock_state g.S.Store c.ids.new.self) = record { frame = c.ids.ensures.frame; stays = c.ids.ensures.stays; untouched = c.ids.ensures.untouched } in
    reads_then (stock_state g.S.Store c.args.store.now) (stock_state g.S.Store c.ids.new.self) (stock_state g.S.Store c.judge_page.new.store) asked c.judge_page.ensures.reads

pub returns-in_err-judge_page-clause-text : goal.returns-in_err-judge_page-clause-text
returns-in_err-judge_page-clause-text g c = c.judge_page.ensures.text ∙ c.ids.ensures.text

pub returns-in_err-judge_page-clause-open : goal.returns-in_err-judge_page-clause-open
returns-in_err-judge_page-clause-open g c =
    let e = err_from_is_err_and c.from_residual-in_err-judge_page.result c.from_residual-in_err-judge_page.ensures.1 in
    rw e.1 (λ of. c.in_err-judge_page.ensures.open (subst IsOfRecord e.2 of))

pub returns-in_err-judge_page-clause-read : goal.returns-in_err-judge_page-clause-read
returns-in_err-judge_page-clause-read g c =
    let begin = stock_state g.S.Store c.args.store.now in
    let mid = stock_state g.S.Store c.ids.new.self in
    let end = stock_state g.S.Store c.judge_page.new.store in
    let asked : OnlyReads begin mid = record { frame = c.ids.ensures.frame; stays = c.ids.ensures.stays; untouched = c.ids.ensures.untouched } in
    let ids = map string_bytes c.in_ok-ids.ids.items in
    let page : Sure begin mid (λ m. Pages m c.args.above.now 1000 ids) = λ clean k shallow holds. pages_of k.records c.args.above.now 1000 ids (c.in_ok-ids.ensures.found clean k holds) in
    let e = err_from_is_err_and c.from_residual-in_err-judge_page.result c.from_residual-in_err-judge_page.ensures.1 in
    rw e.1 (subst (NextFails c.args.book.now begin end c.args.above.now) (sym e.2)
    (next_failed c.args.book.now begin mid end c.args.above.now 1000 ids asked page c.judge_page.ensures.reads c.in_err-judge_page.field-0.0 (rw c.deref.ensures.value at c.in_err-judge_page.ensures.read)))

pub returns-clause-reads : goal.returns-clause-reads
returns-clause-reads g c =
    let asked : OnlyReads (stock_state g.S.Store c.args.store.now) (stock_state g.S.Store c.ids.new.self) = record { frame = c.ids.ensures.frame; stays = c.ids.ensures.stays; untouched = c.ids.ensures.untouched } in
    reads_then (stock_state g.S.Store c.args.store.now) (stock_state g.S.Store c.ids.new.self) (stock_state g.S.Store c.judge_page.new.store) asked c.judge_page.ensures.reads

pub returns-clause-text : goal.returns-clause-text
returns-clause-text g c = c.judge_page.ensures.text ∙ c.ids.ensures.text

pub returns-clause-open : goal.returns-clause-open
returns-clause-open g c = c.in_ok-judge_page.ensures.open c.in_ok-ids.ensures.open

pub returns-clause-read : goal.returns-clause-read
returns-clause-read g c =
    let begin = stock_state g.S.Store c.args.store.now in
    let mid = stock_state g.S.Store c.ids.new.self in
    let end = stock_state g.S.Store c.judge_page.new.store in
    let asked : OnlyReads begin mid = record { frame = c.ids.ensures.frame; stays = c.ids.ensures.stays; untouched = c.ids.ensures.untouched } in
    let ids = map string_bytes c.in_ok-ids.ids.items in
    let page : Sure begin mid (λ m. Pages m c.args.above.now 1000 ids) = λ clean k shallow holds. pages_of k.records c.args.above.now 1000 ids (c.in_ok-ids.ensures.found clean k holds) in
    let So = AreSo g.R.RuleSet.meaning c.args.book.now c.args.now in
    let told : PageDone So c.args.book.now mid end c.args.verdicts.now c.judge_page.new.verdicts ids = rw (c.deref.ensures.value, to_z-of_z w64 c.args.now c.ranges.now) at c.in_ok-judge_page.ensures.read in
    let count : length ids ≡ length c.in_ok-ids.ids.items = length-map c.in_ok-ids.ids.items string_bytes in
    next_done c.args.book.now begin mid end c.args.above.now 1000 ids asked page c.judge_page.ensures.reads So c.args.verdicts.now c.judge_page.new.verdicts told c.full_page.result c.full_page.ensures.last
    (subst (λ (n : ℕ). IfSome c.full_page.result (λ _. 1000 ≤ n)) (sym count) c.full_page.ensures.full) (λ none. subst (λ (n : ℕ). n < 1000) (sym count) (c.full_page.ensures.few none))
