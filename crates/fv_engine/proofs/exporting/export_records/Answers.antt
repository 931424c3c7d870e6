use Rattle.std.proofs.Common.{◌+◌, ◌*◌, None, string_bytes, refl, sym, subst, ◌∙◌, arith}
use Rattle.std.proofs.lemmas.Result.{err_from_is_err_and}
use Rattle.fv_engine.specs.ExportSteps.{TellsWrite, AllFails, NextDone}
use Rattle.fv_engine.proofs.Exported.{grows_then, tells_then, Pass, first_refused, pass_end, pass_failed, pass_first, pass_more, pass_over, reads_then}
use Rattle.fv_store.specs.Stock.{stock_state}
use Rattle.fv_engine.proofs.exporting.export_records.Goals as goal

pub loop-init : goal.loop-init
loop-init g c = record {
  pass = pass_first (stock_state g.S.Store c.args.store.now) (stock_state g.S.Store c.export_first.new.store) (g.O.Output.contents c.args.out.now) (g.O.Output.contents c.export_first.new.out) (string_bytes c.new-above.result) c.export_first.ensures.reads c.in_ok-export_first.ensures.wrote c.new-above.ensures.bytes;
  text = c.export_first.ensures.text;
  grew = c.in_ok-export_first.ensures.grew;
}

pub loop-preserved : goal.loop-preserved
loop-preserved g c =
    let was = c.loop.invariant in
    record {
      pass = pass_more (stock_state g.S.Store c.args.store.now) (stock_state g.S.Store c.loop.store) (stock_state g.S.Store c.export_next_page.new.store) (g.O.Output.contents c.args.out.now) (g.O.Output.contents c.loop.out) (g.O.Output.contents c.export_next_page.new.out) (string_bytes c.loop.above) (c.loop.counter * 1000) was.pass c.export_next_page.ensures.reads (string_bytes c.in-Some.last) _ ((c.loop.counter + 1) * 1000)
          (rw (c.as_str.ensures.value, c.in-Some.is) at c.in_ok-last.ensures.wrote) refl (omega arith);
      text = c.export_next_page.ensures.text ∙ was.text;
      grew = grows_then g.O.Output.contents g.O.Output.takes _ _ _ was.grew c.in_ok-last.ensures.grew;
    }

pub returns-in_err-export_first-clause-wrote : goal.returns-in_err-export_first-clause-wrote
returns-in_err-export_first-clause-wrote g c =
    let begin = stock_state g.S.Store c.args.store.now in
    let end = stock_state g.S.Store c.export_first.new.store in
    let w = g.O.Output.contents c.args.out.now in
    let v = g.O.Output.contents c.export_first.new.out in
    let e = err_from_is_err_and c.from_residual.result c.from_residual.ensures.1 in
    rw e.1 (subst (AllFails begin end w v) (sym e.2) (first_refused begin end w v c.in_err-export_first.field-0.0 c.in_err-export_first.ensures.wrote))

pub returns-in_err-last-clause-reads : goal.returns-in_err-last-clause-reads
returns-in_err-last-clause-reads g c = reads_then (stock_state g.S.Store c.args.store.now) (stock_state g.S.Store c.loop.store) (stock_state g.S.Store c.export_next_page.new.store) c.loop.invariant.pass.reads c.export_next_page.ensures.reads

pub returns-in_err-last-clause-text : goal.returns-in_err-last-clause-text
returns-in_err-last-clause-text g c = c.export_next_page.ensures.text ∙ c.loop.invariant.text

pub returns-in_err-last-clause-wrote : goal.returns-in_err-last-clause-wrote
returns-in_err-last-clause-wrote g c =
    let begin = stock_state g.S.Store c.args.store.now in
    let mid = stock_state g.S.Store c.loop.store in
    let end = stock_state g.S.Store c.export_next_page.new.store in
    let w = g.O.Output.contents c.args.out.now in
    let v = g.O.Output.contents c.loop.out in
    let u = g.O.Output.contents c.export_next_page.new.out in
    let told = rw c.as_str.ensures.value at c.in_err-last.ensures.wrote in
    let e = err_from_is_err_and c.from_residual-in_err-last.result c.from_residual-in_err-last.ensures.1 in
    rw e.1 (subst (AllFails begin end w u) (sym e.2)
    (pass_failed begin mid end w v u (string_bytes c.loop.above) (c.loop.counter * 1000) c.loop.invariant.pass c.export_next_page.ensures.reads c.in_err-last.field-0.0 told))

pub returns-in-None-clause-reads : goal.returns-in-None-clause-reads
returns-in-None-clause-reads g c = reads_then (stock_state g.S.Store c.args.store.now) (stock_state g.S.Store c.loop.store) (stock_state g.S.Store c.export_next_page.new.store) c.loop.invariant.pass.reads c.export_next_page.ensures.reads

pub returns-in-None-clause-text : goal.returns-in-None-clause-text
returns-in-None-clause-text g c = c.export_next_page.ensures.text ∙ c.loop.invariant.text

pub returns-in-None-clause-wrote : goal.returns-in-None-clause-wrote
returns-in-None-clause-wrote g c =
    let begin = stock_state g.S.Store c.args.store.now in
    let mid = stock_state g.S.Store c.loop.store in
    let end = stock_state g.S.Store c.export_next_page.new.store in
    let w = g.O.Output.contents c.args.out.now in
    let v = g.O.Output.contents c.loop.out in
    let u = g.O.Output.contents c.export_next_page.new.out in
    let told : NextDone mid end v u (string_bytes c.loop.above) None = rw (c.as_str.ensures.value, c.in-None.is) at c.in_ok-last.ensures.wrote in
    pass_end begin mid end w v u (string_bytes c.loop.above) (c.loop.counter * 1000) c.loop.invariant.pass c.export_next_page.ensures.reads told

pub returns-in-None-clause-grew : goal.returns-in-None-clause-grew
returns-in-None-clause-grew g c = grows_then g.O.Output.contents g.O.Output.takes _ _ _ c.loop.invariant.grew c.in_ok-last.ensures.grew

pub returns-clause-reads : goal.returns-clause-reads
returns-clause-reads g c = c.loop.invariant.pass.reads

pub returns-clause-wrote : goal.returns-clause-wrote
returns-clause-wrote g c =
    pass_over (stock_state g.S.Store c.args.store.now) (stock_state g.S.Store c.loop.store) (g.O.Output.contents c.args.out.now) (g.O.Output.contents c.loop.out) (string_bytes c.loop.above) (c.loop.counter * 1000) c.loop.invariant.pass (omega arith)

pub returns-in_err-export_first-clause-cause : goal.returns-in_err-export_first-clause-cause
returns-in_err-export_first-clause-cause g c =
    let e = err_from_is_err_and c.from_residual.result c.from_residual.ensures.1 in
    rw e.1 (subst (TellsWrite g.O.Output.contents g.O.Output.takes g.O.Output.fails c.args.out.now c.export_first.new.out) (sym e.2) c.in_err-export_first.ensures.cause)

pub returns-in_err-last-clause-cause : goal.returns-in_err-last-clause-cause
returns-in_err-last-clause-cause g c =
    let e = err_from_is_err_and c.from_residual-in_err-last.result c.from_residual-in_err-last.ensures.1 in
    rw e.1 (subst (TellsWrite g.O.Output.contents g.O.Output.takes g.O.Output.fails c.args.out.now c.export_next_page.new.out) (sym e.2) (tells_then g.O.Output.contents g.O.Output.takes g.O.Output.fails _ _ _ _ c.loop.invariant.grew c.in_err-last.ensures.cause))
