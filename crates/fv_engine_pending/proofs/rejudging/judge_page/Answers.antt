use Rattle.std.proofs.Common.{List, ℕ, refl, sym, ap, subst, ◌∙◌, ◌++◌, ◌∷◌, [], add-one, map, take, string_bytes}
use Rattle.std.proofs.lemmas.Result.{err_from_is_err_and}
use Rattle.fv_engine_pending.specs.Passes.{AreSo, PageFails}
use Rattle.fv_engine_pending.specs.Rejudging.{IsOfRecord}
use Rattle.fv_engine_pending.proofs.Pages.{split_at, taken_one}
use Rattle.fv_engine_pending.proofs.Passes.{page_first, page_more, page_fails, reads_then}
use Rattle.fv_store.specs.Stock.{stock_state}
use Rattle.fv_engine_pending.proofs.rejudging.judge_page.Goals as goal

pub loop-id-init : goal.loop-id-init
loop-id-init g c = record { page = page_first (AreSo g.R.RuleSet.meaning c.args.book.now _) c.args.book.now (stock_state g.S.Store c.args.store.now) c.args.verdicts.now; text = refl }

pub loop-id-preserved : goal.loop-id-preserved
loop-id-preserved g c =
    let was = c.loop-id.invariant in
    let told = c.in_ok-judge_one.ensures.read in
    let front = map string_bytes (take c.loop-id.id-index c.args.ids.now) in
    record {
      page = page_more (AreSo g.R.RuleSet.meaning c.args.book.now _) c.args.book.now (stock_state g.S.Store c.args.store.now) (stock_state g.S.Store c.loop-id.store) (stock_state g.S.Store c.judge_one.new.store) c.args.verdicts.now c.loop-id.verdicts c.judge_one.new.verdicts front _ c.as_str.result.now told.0 was.page c.judge_one.ensures.reads c.in_ok-judge_one.ensures.open
          (rw add-one (taken_one string_bytes c.args.ids.now c.loop-id.id-index c.id-item.result c.loop-id-test.true c.id-item.is ∙ ap (λ (x : List ℕ). front ++ x ∷ []) (sym c.as_str.ensures.value))) told.1 told.2;
      text = c.judge_one.ensures.text ∙ was.text;
    }

pub returns-in_err-judge_one-clause-reads : goal.returns-in_err-judge_one-clause-reads
returns-in_err-judge_one-clause-reads g c = reads_then (stock_state g.S.Store c.args.store.now) (stock_state g.S.Store c.loop-id.store) (stock_state g.S.Store c.judge_one.new.store) c.loop-id.invariant.page.reads c.judge_one.ensures.reads

pub returns-in_err-judge_one-clause-text : goal.returns-in_err-judge_one-clause-text
returns-in_err-judge_one-clause-text g c = c.judge_one.ensures.text ∙ c.loop-id.invariant.text

pub returns-in_err-judge_one-clause-open : goal.returns-in_err-judge_one-clause-open
returns-in_err-judge_one-clause-open g c =
    let e = err_from_is_err_and c.from_residual.result c.from_residual.ensures.1 in
    rw e.1 (λ of. c.in_err-judge_one.ensures.open (subst IsOfRecord e.2 of))

pub returns-in_err-judge_one-clause-read : goal.returns-in_err-judge_one-clause-read
returns-in_err-judge_one-clause-read g c =
    let begin = stock_state g.S.Store c.args.store.now in
    let mid = stock_state g.S.Store c.loop-id.store in
    let end = stock_state g.S.Store c.judge_one.new.store in
    let e = err_from_is_err_and c.from_residual.result c.from_residual.ensures.1 in
    let front = map string_bytes (take c.loop-id.id-index c.args.ids.now) in
    let cut = split_at string_bytes c.args.ids.now c.loop-id.id-index c.id-item.result c.loop-id-test.true c.id-item.is in
    rw e.1 (subst (PageFails c.args.book.now begin end (map string_bytes c.args.ids.now)) (sym e.2)
    (page_fails (AreSo g.R.RuleSet.meaning c.args.book.now _) c.args.book.now begin mid end c.args.verdicts.now c.loop-id.verdicts front (map string_bytes c.args.ids.now) cut.0 c.as_str.result.now c.in_err-judge_one.field-0.0 c.loop-id.invariant.page
    c.judge_one.ensures.reads (cut.1 ∙ ap (λ (x : List ℕ). front ++ x ∷ cut.0) (sym c.as_str.ensures.value)) c.in_err-judge_one.ensures.read))
