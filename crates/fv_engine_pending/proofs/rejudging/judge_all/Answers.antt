use Rattle.std.proofs.Common.{◌+◌, ◌*◌, None, [], map, string_bytes, refl, sym, ap, subst, ◌∙◌, arith}
use Rattle.std.proofs.lemmas.Int.{to_z-of_z}
use Rattle.std.proofs.lemmas.Result.{IfErr-weaker, IfOk-weaker, err_from_is_err_and}
use mir.Syntax.{w64}
use Rattle.fv_engine_pending.specs.declared.rejudging.Verdicts.TheVariants.{Listed}
use Rattle.fv_engine_pending.specs.Passes.{AreSo, NextDone}
use Rattle.fv_engine_pending.specs.Rejudging.{IsOfRecord, RejudgeFails}
use Rattle.fv_engine_pending.proofs.Passes.{Pass, first_refused, live_told, pass_end, pass_failed, pass_first, pass_more, pass_over, all_ok, all_err, reads_then}
use Rattle.fv_validate.specs.ViolationView.{judged_view}
use Rattle.fv_store.specs.Causes.{HasFailed}
use Rattle.fv_store.specs.Stands.{IsLive}
use Rattle.fv_store.specs.Stock.{stock_state}
use Rattle.fv_engine_pending.proofs.rejudging.judge_all.Goals as goal

pub loop-init : goal.loop-init
loop-init g c = record {
  pass = pass_first (AreSo g.R.RuleSet.meaning c.args.book.now _) c.args.book.now (stock_state g.S.Store c.args.store.now) (stock_state g.S.Store c.judge_first.new.store) (Listed c.new.result) c.judge_first.new.verdicts (string_bytes c.new-above.result) c.judge_first.ensures.reads ([], refl, ap (map judged_view) c.new.ensures.items) c.in_ok-judge_first.ensures.read c.new-above.ensures.bytes;
  text = c.judge_first.ensures.text;
}

pub loop-preserved : goal.loop-preserved
loop-preserved g c =
    let was = c.loop.invariant in
    record {
      pass = pass_more (AreSo g.R.RuleSet.meaning c.args.book.now _) c.args.book.now (stock_state g.S.Store c.args.store.now) (stock_state g.S.Store c.loop.store) (stock_state g.S.Store c.judge_next_page.new.store) c.loop.verdicts (string_bytes c.loop.above) (c.loop.counter * 1000) was.pass c.judge_next_page.ensures.reads c.judge_next_page.new.verdicts (string_bytes c.in-Some.last) _ ((c.loop.counter + 1) * 1000)
          (rw (c.as_str.ensures.value, c.in-Some.is) at c.in_ok-last.ensures.read) refl (omega arith);
      text = c.judge_next_page.ensures.text ∙ was.text;
    }

pub returns-in_err-judge_first-clause-open : goal.returns-in_err-judge_first-clause-open
returns-in_err-judge_first-clause-open g c =
    let e = err_from_is_err_and c.from_residual.result c.from_residual.ensures.1 in
    rw e.1 (λ of. c.in_err-judge_first.ensures.open (subst IsOfRecord e.2 of))

pub returns-in_err-judge_first-clause-refused : goal.returns-in_err-judge_first-clause-refused
returns-in_err-judge_first-clause-refused g c =
    let begin = stock_state g.S.Store c.args.store.now in
    let end = stock_state g.S.Store c.judge_first.new.store in
    let e = err_from_is_err_and c.from_residual.result c.from_residual.ensures.1 in
    rw e.1 (λ clean k shallow holds. subst (RejudgeFails c.args.book.now k.records (HasFailed begin end)) (sym e.2) (first_refused c.args.book.now begin end c.in_err-judge_first.field-0.0 c.in_err-judge_first.ensures.read clean k shallow holds))

pub returns-in_err-last-clause-frame : goal.returns-in_err-last-clause-frame
returns-in_err-last-clause-frame g c = (reads_then (stock_state g.S.Store c.args.store.now) (stock_state g.S.Store c.loop.store) (stock_state g.S.Store c.judge_next_page.new.store) c.loop.invariant.pass.reads c.judge_next_page.ensures.reads).frame

pub returns-in_err-last-clause-text : goal.returns-in_err-last-clause-text
returns-in_err-last-clause-text g c = c.judge_next_page.ensures.text ∙ c.loop.invariant.text

pub returns-in_err-last-clause-open : goal.returns-in_err-last-clause-open
returns-in_err-last-clause-open g c =
    let e = err_from_is_err_and c.from_residual-in_err-last.result c.from_residual-in_err-last.ensures.1 in
    rw e.1 (λ of. c.in_err-last.ensures.open (subst IsOfRecord e.2 of))

pub returns-in_err-last-clause-refused : goal.returns-in_err-last-clause-refused
returns-in_err-last-clause-refused g c =
    let begin = stock_state g.S.Store c.args.store.now in
    let mid = stock_state g.S.Store c.loop.store in
    let end = stock_state g.S.Store c.judge_next_page.new.store in
    let told = rw c.as_str.ensures.value at c.in_err-last.ensures.read in
    let e = err_from_is_err_and c.from_residual-in_err-last.result c.from_residual-in_err-last.ensures.1 in
    rw e.1 (λ clean k shallow holds. subst (RejudgeFails c.args.book.now k.records (HasFailed begin end)) (sym e.2)
    (pass_failed (AreSo g.R.RuleSet.meaning c.args.book.now _) c.args.book.now begin mid end c.loop.verdicts (string_bytes c.loop.above) (c.loop.counter * 1000) c.loop.invariant.pass c.judge_next_page.ensures.reads c.in_err-last.field-0.0 told clean k shallow holds))

pub returns-in_err-last-clause-stays : goal.returns-in_err-last-clause-stays
returns-in_err-last-clause-stays g c = (reads_then (stock_state g.S.Store c.args.store.now) (stock_state g.S.Store c.loop.store) (stock_state g.S.Store c.judge_next_page.new.store) c.loop.invariant.pass.reads c.judge_next_page.ensures.reads).stays

pub returns-in_err-last-clause-untouched : goal.returns-in_err-last-clause-untouched
returns-in_err-last-clause-untouched g c = (reads_then (stock_state g.S.Store c.args.store.now) (stock_state g.S.Store c.loop.store) (stock_state g.S.Store c.judge_next_page.new.store) c.loop.invariant.pass.reads c.judge_next_page.ensures.reads).untouched

pub returns-in-None-clause-frame : goal.returns-in-None-clause-frame
returns-in-None-clause-frame g c = (reads_then (stock_state g.S.Store c.args.store.now) (stock_state g.S.Store c.loop.store) (stock_state g.S.Store c.judge_next_page.new.store) c.loop.invariant.pass.reads c.judge_next_page.ensures.reads).frame

pub returns-in-None-clause-text : goal.returns-in-None-clause-text
returns-in-None-clause-text g c = c.judge_next_page.ensures.text ∙ c.loop.invariant.text

pub returns-in-None-clause-open : goal.returns-in-None-clause-open
returns-in-None-clause-open g c = live_told c.settled.result (IsLive (stock_state g.S.Store c.judge_next_page.new.store)) c.in_ok-last.ensures.open

pub returns-in-None-clause-judged : goal.returns-in-None-clause-judged
returns-in-None-clause-judged g c =
    let begin = stock_state g.S.Store c.args.store.now in
    let mid = stock_state g.S.Store c.loop.store in
    let end = stock_state g.S.Store c.judge_next_page.new.store in
    let So = AreSo g.R.RuleSet.meaning c.args.book.now c.args.now in
    let pass : Pass So c.args.book.now begin mid c.loop.verdicts (string_bytes c.loop.above) (c.loop.counter * 1000) = rw (to_z-of_z w64 c.args.now c.ranges.now) at c.loop.invariant.pass in
    let told : NextDone So c.args.book.now mid end c.loop.verdicts c.judge_next_page.new.verdicts (string_bytes c.loop.above) None = rw (c.as_str.ensures.value, c.in-None.is, to_z-of_z w64 c.args.now c.ranges.now) at c.in_ok-last.ensures.read in
    let all = pass_end So c.args.book.now begin mid end c.loop.verdicts (string_bytes c.loop.above) (c.loop.counter * 1000) pass c.judge_next_page.ensures.reads c.judge_next_page.new.verdicts told in
    λ clean. IfOk-weaker c.settled.result _ _ (λ v sure. sure clean) (all_ok g.R.RuleSet.meaning c.args.book.now c.args.now all.0 begin end all.2 (λ v. map judged_view v.items) c.settled.result (c.settled.ensures g.R.RuleSet.meaning c.args.book.now c.args.now all.0 all.1))

pub returns-in-None-clause-refused : goal.returns-in-None-clause-refused
returns-in-None-clause-refused g c =
    let begin = stock_state g.S.Store c.args.store.now in
    let mid = stock_state g.S.Store c.loop.store in
    let end = stock_state g.S.Store c.judge_next_page.new.store in
    let So = AreSo g.R.RuleSet.meaning c.args.book.now c.args.now in
    let pass : Pass So c.args.book.now begin mid c.loop.verdicts (string_bytes c.loop.above) (c.loop.counter * 1000) = rw (to_z-of_z w64 c.args.now c.ranges.now) at c.loop.invariant.pass in
    let told : NextDone So c.args.book.now mid end c.loop.verdicts c.judge_next_page.new.verdicts (string_bytes c.loop.above) None = rw (c.as_str.ensures.value, c.in-None.is, to_z-of_z w64 c.args.now c.ranges.now) at c.in_ok-last.ensures.read in
    let all = pass_end So c.args.book.now begin mid end c.loop.verdicts (string_bytes c.loop.above) (c.loop.counter * 1000) pass c.judge_next_page.ensures.reads c.judge_next_page.new.verdicts told in
    λ clean. IfErr-weaker c.settled.result _ _ (λ f sure. sure clean) (all_err g.R.RuleSet.meaning c.args.book.now c.args.now all.0 begin end all.2 (λ v. map judged_view v.items) c.settled.result (c.settled.ensures g.R.RuleSet.meaning c.args.book.now c.args.now all.0 all.1))

pub returns-in-None-clause-stays : goal.returns-in-None-clause-stays
returns-in-None-clause-stays g c = (reads_then (stock_state g.S.Store c.args.store.now) (stock_state g.S.Store c.loop.store) (stock_state g.S.Store c.judge_next_page.new.store) c.loop.invariant.pass.reads c.judge_next_page.ensures.reads).stays

pub returns-in-None-clause-untouched : goal.returns-in-None-clause-untouched
returns-in-None-clause-untouched g c = (reads_then (stock_state g.S.Store c.args.store.now) (stock_state g.S.Store c.loop.store) (stock_state g.S.Store c.judge_next_page.new.store) c.loop.invariant.pass.reads c.judge_next_page.ensures.reads).untouched

pub returns-clause-frame : goal.returns-clause-frame
returns-clause-frame g c = c.loop.invariant.pass.reads.frame

pub returns-clause-stays : goal.returns-clause-stays
returns-clause-stays g c = c.loop.invariant.pass.reads.stays

pub returns-clause-untouched : goal.returns-clause-untouched
returns-clause-untouched g c = c.loop.invariant.pass.reads.untouched

pub returns-clause-refused : goal.returns-clause-refused
returns-clause-refused g c =
    pass_over (AreSo g.R.RuleSet.meaning c.args.book.now _) c.args.book.now (stock_state g.S.Store c.args.store.now) (stock_state g.S.Store c.loop.store) c.loop.verdicts (string_bytes c.loop.above) (c.loop.counter * 1000) c.loop.invariant.pass (omega arith)
