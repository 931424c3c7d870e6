use Rattle.std.proofs.Common.{◌≡◌, ◌<◌, ◌≤◌, ℕ, IfSome, length, map, string_bytes, sym, subst, ◌∙◌}
use Rattle.std.proofs.lemmas.List.{length-map}
use Rattle.std.proofs.lemmas.Result.{err_from_is_err_and}
use Rattle.fv_engine.specs.ExportSteps.{TellsWrite, NextFails, PageDone}
use Rattle.fv_engine.proofs.Exported.{store_tells, Pages, next_done, next_failed, next_store, pages_of, reads_then}
use Rattle.fv_engine_pending.specs.Passes.{OnlyReads, Sure}
use Rattle.fv_store.specs.Stock.{stock_state}
use Rattle.fv_engine.proofs.exporting.export_next_page.Goals as goal

pub returns-in_err-ids-clause-wrote : goal.returns-in_err-ids-clause-wrote
returns-in_err-ids-clause-wrote g c =
    let begin = stock_state g.S.Store c.args.store.now in
    let end = stock_state g.S.Store c.ids.new.self in
    let w = g.O.Output.contents c.args.out.now in
    let e = err_from_is_err_and c.from_residual.result c.from_residual.ensures.1 in
    rw e.1 (subst (NextFails begin end w w c.args.above.now) (sym e.2) (next_store begin end w c.args.above.now c.in_err-ids.field-0.0 (λ clean. c.in_err-ids.ensures.cause clean)))

pub returns-in_err-export_page-clause-reads : goal.returns-in_err-export_page-clause-reads
returns-in_err-export_page-clause-reads g c =
    let asked : OnlyReads (stock_state g.S.Store c.args.store.now) (stock_state g.S.Store c.ids.new.self) = record { frame = c.ids.ensures.frame; stays = c.ids.ensures.stays; untouched = c.ids.ensures.untouched } in
    reads_then (stock_state g.S.Store c.args.store.now) (stock_state g.S.Store c.ids.new.self) (stock_state g.S.Store c.export_page.new.store) asked c.export_page.ensures.reads

pub returns-in_err-export_page-clause-text : goal.returns-in_err-export_page-clause-text
returns-in_err-export_page-clause-text g c = c.export_page.ensures.text ∙ c.ids.ensures.text

pub returns-in_err-export_page-clause-wrote : goal.returns-in_err-export_page-clause-wrote
returns-in_err-export_page-clause-wrote g c =
    let begin = stock_state g.S.Store c.args.store.now in
    let mid = stock_state g.S.Store c.ids.new.self in
    let end = stock_state g.S.Store c.export_page.new.store in
    let w = g.O.Output.contents c.args.out.now in
    let v = g.O.Output.contents c.export_page.new.out in
    let asked : OnlyReads begin mid = record { frame = c.ids.ensures.frame; stays = c.ids.ensures.stays; untouched = c.ids.ensures.untouched } in
    let ids = map string_bytes c.in_ok-ids.ids.items in
    let page : Sure begin mid (λ m. Pages m c.args.above.now 1000 ids) = λ clean k shallow holds. pages_of k.records c.args.above.now 1000 ids (c.in_ok-ids.ensures.found clean k holds) in
    let e = err_from_is_err_and c.from_residual-in_err-export_page.result c.from_residual-in_err-export_page.ensures.1 in
    rw e.1 (subst (NextFails begin end w v c.args.above.now) (sym e.2)
    (next_failed begin mid end w v c.args.above.now 1000 ids asked page c.export_page.ensures.reads c.in_err-export_page.field-0.0 (rw c.deref.ensures.value at c.in_err-export_page.ensures.wrote)))

pub returns-clause-reads : goal.returns-clause-reads
returns-clause-reads g c =
    let asked : OnlyReads (stock_state g.S.Store c.args.store.now) (stock_state g.S.Store c.ids.new.self) = record { frame = c.ids.ensures.frame; stays = c.ids.ensures.stays; untouched = c.ids.ensures.untouched } in
    reads_then (stock_state g.S.Store c.args.store.now) (stock_state g.S.Store c.ids.new.self) (stock_state g.S.Store c.export_page.new.store) asked c.export_page.ensures.reads

pub returns-clause-text : goal.returns-clause-text
returns-clause-text g c = c.export_page.ensures.text ∙ c.ids.ensures.text

pub returns-clause-wrote : goal.returns-clause-wrote
returns-clause-wrote g c =
    let begin = stock_state g.S.Store c.args.store.now in
    let mid = stock_state g.S.Store c.ids.new.self in
    let end = stock_state g.S.Store c.export_page.new.store in
    let w = g.O.Output.contents c.args.out.now in
    let v = g.O.Output.contents c.export_page.new.out in
    let asked : OnlyReads begin mid = record { frame = c.ids.ensures.frame; stays = c.ids.ensures.stays; untouched = c.ids.ensures.untouched } in
    let ids = map string_bytes c.in_ok-ids.ids.items in
    let page : Sure begin mid (λ m. Pages m c.args.above.now 1000 ids) = λ clean k shallow holds. pages_of k.records c.args.above.now 1000 ids (c.in_ok-ids.ensures.found clean k holds) in
    let told : PageDone mid end w v ids = rw c.deref.ensures.value at c.in_ok-export_page.ensures.wrote in
    let count : length ids ≡ length c.in_ok-ids.ids.items = length-map c.in_ok-ids.ids.items string_bytes in
    next_done begin mid end w v c.args.above.now 1000 ids asked page c.export_page.ensures.reads told c.full_page.result c.full_page.ensures.last
    (subst (λ (n : ℕ). IfSome c.full_page.result (λ _. 1000 ≤ n)) (sym count) c.full_page.ensures.full) (λ none. subst (λ (n : ℕ). n < 1000) (sym count) (c.full_page.ensures.few none))

pub returns-in_err-ids-clause-cause : goal.returns-in_err-ids-clause-cause
returns-in_err-ids-clause-cause g c =
    let e = err_from_is_err_and c.from_residual.result c.from_residual.ensures.1 in
    rw e.1 (subst (TellsWrite g.O.Output.contents g.O.Output.takes g.O.Output.fails c.args.out.now c.args.out.now) (sym e.2) (store_tells g.O.Output.contents g.O.Output.takes g.O.Output.fails c.args.out.now c.args.out.now c.in_err-ids.field-0.0))

pub returns-in_err-export_page-clause-cause : goal.returns-in_err-export_page-clause-cause
returns-in_err-export_page-clause-cause g c =
    let e = err_from_is_err_and c.from_residual-in_err-export_page.result c.from_residual-in_err-export_page.ensures.1 in
    rw e.1 (subst (TellsWrite g.O.Output.contents g.O.Output.takes g.O.Output.fails c.args.out.now c.export_page.new.out) (sym e.2) c.in_err-export_page.ensures.cause)
