use Rattle.std.proofs.Common.{option_map, sym, ap, subst, ◌∙◌}
use Rattle.std.proofs.lemmas.Result.{err_from_is_err_and}
use Rattle.fv_engine.specs.ExportSteps.{TellsWrite, OneFails}
use Rattle.fv_engine.proofs.Exported.{store_tells, one_done, one_none, one_store}
use Rattle.fv_store.specs.Stock.{stock_state}
use Rattle.fv_store.specs.Stored.{written_view}
use Rattle.fv_engine.proofs.exporting.export_one.Goals as goal

pub returns-in_err-written-clause-wrote : goal.returns-in_err-written-clause-wrote
returns-in_err-written-clause-wrote g c =
    let e = err_from_is_err_and c.from_residual.result c.from_residual.ensures.1 in
    let begin = stock_state g.S.Store c.args.store.now in
    let end = stock_state g.S.Store c.written.new.self in
    let w = g.O.Output.contents c.args.out.now in
    rw e.1 (subst (OneFails begin end w w c.args.id.now) (sym e.2) (one_store begin end w c.args.id.now c.in_err-written.field-0.0 (λ clean. c.in_err-written.ensures.cause clean)))

pub returns-in-None-clause-wrote : goal.returns-in-None-clause-wrote
returns-in-None-clause-wrote g c =
    one_none (stock_state g.S.Store c.args.store.now) (stock_state g.S.Store c.written.new.self) (g.O.Output.contents c.args.out.now) c.args.id.now
    (λ clean k shallow holds. ap (option_map written_view) (sym c.in-None.is) ∙ c.in_ok-written.ensures.found clean k shallow holds)

pub returns-in-Some-clause-wrote : goal.returns-in-Some-clause-wrote
returns-in-Some-clause-wrote g c =
    one_done (stock_state g.S.Store c.args.store.now) (stock_state g.S.Store c.written.new.self) (g.O.Output.contents c.args.out.now) (g.O.Output.contents c.write_record.new.out) c.args.id.now (written_view c.in-Some.written) c.write_record.result
    (λ clean k shallow holds. ap (option_map written_view) (sym c.in-Some.is) ∙ c.in_ok-written.ensures.found clean k shallow holds) c.write_record.ensures.wrote

pub returns-in_err-written-clause-cause : goal.returns-in_err-written-clause-cause
returns-in_err-written-clause-cause g c =
    let e = err_from_is_err_and c.from_residual.result c.from_residual.ensures.1 in
    rw e.1 (subst (TellsWrite g.O.Output.contents g.O.Output.takes g.O.Output.fails c.args.out.now c.args.out.now) (sym e.2) (store_tells g.O.Output.contents g.O.Output.takes g.O.Output.fails c.args.out.now c.args.out.now c.in_err-written.field-0.0))
