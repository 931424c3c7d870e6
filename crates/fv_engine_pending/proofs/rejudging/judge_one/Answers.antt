use Rattle.std.proofs.Common.{◌++◌, ◌∷◌, [], List, ℕ, option_map, sym, ap, subst, ◌∙◌}
use Rattle.std.proofs.lemmas.Int.{to_z-of_z}
use Rattle.std.proofs.lemmas.Result.{err_from_is_err_and}
use mir.Syntax.{w64}
use Rattle.fv_engine_pending.specs.Passes.{AreSo, OneFails}
use Rattle.fv_engine_pending.specs.Rejudging.{IsOfRecord}
use Rattle.fv_engine_pending.proofs.Passes.{one_read, one_store, one_none, no_record, live_told, WrittenDone}
use Rattle.fv_store.specs.Records.{Kept}
use Rattle.fv_store.specs.Stands.{IsLive}
use Rattle.fv_store.specs.Stock.{stock_state}
use Rattle.fv_store.specs.Stored.{written_view}
use Rattle.fv_engine_pending.proofs.rejudging.judge_one.Goals as goal

pub returns-in_err-written-clause-open : goal.returns-in_err-written-clause-open
returns-in_err-written-clause-open g c =
    let e = err_from_is_err_and c.from_residual.result c.from_residual.ensures.1 in
    rw e.1 (λ of. absurd {A = IsLive (stock_state g.S.Store c.written.new.self)} (no_record c.in_err-written.field-0.0 (subst IsOfRecord e.2 of)))

pub returns-in_err-written-clause-read : goal.returns-in_err-written-clause-read
returns-in_err-written-clause-read g c =
    let e = err_from_is_err_and c.from_residual.result c.from_residual.ensures.1 in
    rw e.1 (subst (OneFails c.args.book.now (stock_state g.S.Store c.args.store.now) (stock_state g.S.Store c.written.new.self) c.args.id.now) (sym e.2)
    (one_store c.args.book.now (stock_state g.S.Store c.args.store.now) (stock_state g.S.Store c.written.new.self) c.args.id.now c.in_err-written.field-0.0 (λ clean. c.in_err-written.ensures.cause clean)))

pub returns-in-None-clause-read : goal.returns-in-None-clause-read
returns-in-None-clause-read g c =
    one_none c.args.book.now (stock_state g.S.Store c.args.store.now) (stock_state g.S.Store c.written.new.self) c.args.id.now (λ clean k shallow holds. ap (option_map written_view) (sym c.in-None.is) ∙ c.in_ok-written.ensures.found clean k shallow holds)

pub returns-in-Some-clause-open : goal.returns-in-Some-clause-open
returns-in-Some-clause-open g c = live_told c.judge_written.result (IsLive (stock_state g.S.Store c.written.new.self)) c.in_ok-written.ensures.open

pub returns-in-Some-clause-read : goal.returns-in-Some-clause-read
returns-in-Some-clause-read g c =
    let Judges = λ (s : Kept). (ks : List (List ℕ × Kept)) → AreSo g.R.RuleSet.meaning c.args.book.now c.args.now c.args.verdicts.now ks → AreSo g.R.RuleSet.meaning c.args.book.now c.args.now c.judge_written.new.verdicts (ks ++ (c.args.id.now, s) ∷ []) in
    let told : WrittenDone c.args.book.now c.args.id.now (written_view c.in-Some.written) Judges c.judge_written.result = rw (to_z-of_z w64 c.args.now c.ranges.now) at c.judge_written.ensures in
    one_read c.args.book.now (stock_state g.S.Store c.args.store.now) (stock_state g.S.Store c.written.new.self) c.args.id.now (written_view c.in-Some.written) Judges c.judge_written.result
    (λ clean k shallow holds. ap (option_map written_view) (sym c.in-Some.is) ∙ c.in_ok-written.ensures.found clean k shallow holds) told
