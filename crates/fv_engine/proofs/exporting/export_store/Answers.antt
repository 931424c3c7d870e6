use Rattle.std.proofs.Common.{sym, subst}
use Rattle.std.proofs.lemmas.Result.{err_from_is_err_and}
use Rattle.std.specs.Io.KnownBytes.{Appends}
use Rattle.fv_engine.specs.Exports.{declarations_line}
use Rattle.fv_engine.specs.ExportSteps.{TellsWrite, StoreFails}
use Rattle.fv_engine.proofs.Exported.{flush_sends, flush_tells, flush_wrote, grows_then, store_done, store_failed, tells_then, undeclared}
use Rattle.fv_store.specs.Stock.{stock_state}
use Rattle.fv_engine.proofs.exporting.export_store.Goals as goal

pub returns-in_err-write_declarations-clause-wrote : goal.returns-in_err-write_declarations-clause-wrote
returns-in_err-write_declarations-clause-wrote g c =
    let begin = stock_state g.S.Store c.args.store.now in
    let w = g.O.Output.contents c.args.out.now in
    let v = g.O.Output.contents c.write_declarations.new.out in
    let text = c.args.store.now.text in
    let told = rw c.declarations.ensures at c.in_err-write_declarations.ensures.wrote in
    let e = err_from_is_err_and c.from_residual.result c.from_residual.ensures.1 in
    rw e.1 (subst (StoreFails begin begin w v text) (sym e.2) (undeclared begin w v text c.in_err-write_declarations.field-0.0 told.0 told.1))

pub returns-in_err-export_records-clause-wrote : goal.returns-in_err-export_records-clause-wrote
returns-in_err-export_records-clause-wrote g c =
    let begin = stock_state g.S.Store c.args.store.now in
    let end = stock_state g.S.Store c.export_records.new.store in
    let w = g.O.Output.contents c.args.out.now in
    let v = g.O.Output.contents c.write_declarations.new.out in
    let u = g.O.Output.contents c.export_records.new.out in
    let text = c.args.store.now.text in
    let wrote : Appends w v (declarations_line text) = rw c.declarations.ensures at c.in_ok-write_declarations.ensures.wrote in
    let e = err_from_is_err_and c.from_residual-in_err-export_records.result c.from_residual-in_err-export_records.ensures.1 in
    rw e.1 (subst (StoreFails begin end w u text) (sym e.2) (store_failed begin end w v u text wrote c.in_err-export_records.field-0.0 c.in_err-export_records.ensures.wrote))

pub returns-clause-wrote : goal.returns-clause-wrote
returns-clause-wrote g c =
    let begin = stock_state g.S.Store c.args.store.now in
    let end = stock_state g.S.Store c.export_records.new.store in
    let w = g.O.Output.contents c.args.out.now in
    let v = g.O.Output.contents c.write_declarations.new.out in
    let u = g.O.Output.contents c.export_records.new.out in
    let text = c.args.store.now.text in
    let wrote : Appends w v (declarations_line text) = rw c.declarations.ensures at c.in_ok-write_declarations.ensures.wrote in
    flush_wrote _ begin end w u (g.O.Output.contents c.flush.new.out) text c.flush.result (store_done begin end w v u text wrote c.in_ok-export_records.ensures.wrote) c.flush.ensures.kept c.flush.ensures.cause

pub returns-in_err-write_declarations-clause-cause : goal.returns-in_err-write_declarations-clause-cause
returns-in_err-write_declarations-clause-cause g c =
    let e = err_from_is_err_and c.from_residual.result c.from_residual.ensures.1 in
    rw e.1 (subst (TellsWrite g.O.Output.contents g.O.Output.takes g.O.Output.fails c.args.out.now c.write_declarations.new.out) (sym e.2) c.in_err-write_declarations.ensures.cause)

pub returns-in_err-export_records-clause-cause : goal.returns-in_err-export_records-clause-cause
returns-in_err-export_records-clause-cause g c =
    let e = err_from_is_err_and c.from_residual-in_err-export_records.result c.from_residual-in_err-export_records.ensures.1 in
    rw e.1 (subst (TellsWrite g.O.Output.contents g.O.Output.takes g.O.Output.fails c.args.out.now c.export_records.new.out) (sym e.2) (tells_then g.O.Output.contents g.O.Output.takes g.O.Output.fails _ _ _ _ c.in_ok-write_declarations.ensures.grew c.in_err-export_records.ensures.cause))

pub returns-clause-cause : goal.returns-clause-cause
returns-clause-cause g c =
    let grown = grows_then g.O.Output.contents g.O.Output.takes _ _ _ c.in_ok-write_declarations.ensures.grew c.in_ok-export_records.ensures.grew in
    flush_tells g.O.Output.contents g.O.Output.takes g.O.Output.fails _ _ _ c.flush.result grown c.flush.ensures.kept c.flush.ensures.cause

pub returns-clause-flushed : goal.returns-clause-flushed
returns-clause-flushed g c =
    let grown = grows_then g.O.Output.contents g.O.Output.takes _ _ _ c.in_ok-write_declarations.ensures.grew c.in_ok-export_records.ensures.grew in
    flush_sends g.O.Output.contents g.O.Output.takes g.O.Output.flushes _ _ _ c.flush.result grown c.flush.ensures.kept c.flush.ensures.flushed
