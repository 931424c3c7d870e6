use Rattle.std.proofs.Common.{option_map, sym, ap, subst, ◌∙◌}
use Rattle.std.proofs.lemmas.Result.{err_from_is_err_and}
use Rattle.fv_engine.specs.ExportSteps.{TellsWrite, FirstFails}
use Rattle.fv_engine.proofs.Exported.{grows_none, store_tells, first_done, first_no, first_store}
use Rattle.fv_store.specs.Stock.{stock_state}
use Rattle.fv_store.specs.Stored.{written_view}
use Rattle.fv_engine.proofs.exporting.export_first.Goals as goal

pub returns-in_err-written-clause-wrote : goal.returns-in_err-written-clause-wrote
returns-in_err-written-clause-wrote g c =
    let e = err_from_is_err_and c.from_residual.result c.from_residual.ensures.1 in
    let begin = stock_state g.S.Store c.args.store.now in
    let end = stock_state g.S.Store c.written.new.self in
    let w = g.O.Output.contents c.args.out.now in
    rw e.1 (subst (FirstFails begin end w w) (sym e.2) (first_store begin end w c.in_err-written.field-0.0 (λ clean. c.in_err-written.ensures.cause clean)))

pub returns-in-None-clause-wrote : goal.returns-in-None-clause-wrote
returns-in-None-clause-wrote g c =
    first_no (stock_state g.S.Store c.args.store.now) (stock_state g.S.Store c.written.new.self) (g.O.Output.contents c.args.out.now)
    (λ clean k shallow holds. ap (option_map written_view) (sym c.in-None.is) ∙ c.in_ok-written.ensures.found clean k shallow holds)

pub returns-in-Some-clause-wrote : goal.returns-in-Some-clause-wrote
returns-in-Some-clause-wrote g c =
    first_done (stock_state g.S.Store c.args.store.now) (stock_state g.S.Store c.written.new.self) (g.O.Output.contents c.args.out.now) (g.O.Output.contents c.write_record.new.out) (written_view c.in-Some.written) c.write_record.result
    (λ clean k shallow holds. ap (option_map written_view) (sym c.in-Some.is) ∙ c.in_ok-written.ensures.found clean k shallow holds) c.write_record.ensures.wrote

pub returns-in-None-clause-grew : goal.returns-in-None-clause-grew
returns-in-None-clause-grew g c = grows_none g.O.Output.contents g.O.Output.takes _

pub returns-in_err-written-clause-cause : goal.returns-in_err-written-clause-cause
returns-in_err-written-clause-cause g c =
    let e = err_from_is_err_and c.from_residual.result c.from_residual.ensures.1 in
    rw e.1 (subst (TellsWrite g.O.Output.contents g.O.Output.takes g.O.Output.fails c.args.out.now c.args.out.now) (sym e.2) (store_tells g.O.Output.contents g.O.Output.takes g.O.Output.fails c.args.out.now c.args.out.now c.in_err-written.field-0.0))
