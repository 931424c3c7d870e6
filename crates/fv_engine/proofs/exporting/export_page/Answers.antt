use Rattle.std.proofs.Common.{◌++◌, ◌∷◌, [], List, ℕ, map, take, string_bytes, refl, sym, ap, subst, ◌∙◌, add-one}
use Rattle.std.proofs.lemmas.Result.{err_from_is_err_and}
use Rattle.fv_engine.specs.ExportSteps.{TellsWrite, PageFails}
use Rattle.fv_engine.proofs.Exported.{grows_none, grows_then, tells_then, page_fails, page_first, page_more, reads_then, split_at, taken_one}
use Rattle.fv_store.specs.Stock.{stock_state}
use Rattle.fv_engine.proofs.exporting.export_page.Goals as goal

pub loop-id-init : goal.loop-id-init
loop-id-init g c = record { page = page_first (stock_state g.S.Store c.args.store.now) (g.O.Output.contents c.args.out.now); text = refl; grew = grows_none g.O.Output.contents g.O.Output.takes _ }

pub loop-id-preserved : goal.loop-id-preserved
loop-id-preserved g c =
    let was = c.loop-id.invariant in
    let front = map string_bytes (take c.loop-id.id-index c.args.ids.now) in
    record {
      page = page_more (stock_state g.S.Store c.args.store.now) (stock_state g.S.Store c.loop-id.store) (stock_state g.S.Store c.export_one.new.store) (g.O.Output.contents c.args.out.now) (g.O.Output.contents c.loop-id.out) (g.O.Output.contents c.export_one.new.out) front c.as_str.result.now was.page c.export_one.ensures.reads _
          (rw add-one (taken_one string_bytes c.args.ids.now c.loop-id.id-index c.id-item.result c.loop-id-test.true c.id-item.is ∙ ap (λ (x : List ℕ). front ++ x ∷ []) (sym c.as_str.ensures.value))) c.in_ok-export_one.ensures.wrote;
      text = c.export_one.ensures.text ∙ was.text;
      grew = grows_then g.O.Output.contents g.O.Output.takes _ _ _ was.grew c.in_ok-export_one.ensures.grew;
    }

pub returns-in_err-export_one-clause-reads : goal.returns-in_err-export_one-clause-reads
returns-in_err-export_one-clause-reads g c = reads_then (stock_state g.S.Store c.args.store.now) (stock_state g.S.Store c.loop-id.store) (stock_state g.S.Store c.export_one.new.store) c.loop-id.invariant.page.reads c.export_one.ensures.reads

pub returns-in_err-export_one-clause-text : goal.returns-in_err-export_one-clause-text
returns-in_err-export_one-clause-text g c = c.export_one.ensures.text ∙ c.loop-id.invariant.text

pub returns-in_err-export_one-clause-wrote : goal.returns-in_err-export_one-clause-wrote
returns-in_err-export_one-clause-wrote g c =
    let begin = stock_state g.S.Store c.args.store.now in
    let mid = stock_state g.S.Store c.loop-id.store in
    let end = stock_state g.S.Store c.export_one.new.store in
    let w = g.O.Output.contents c.args.out.now in
    let v = g.O.Output.contents c.loop-id.out in
    let u = g.O.Output.contents c.export_one.new.out in
    let e = err_from_is_err_and c.from_residual.result c.from_residual.ensures.1 in
    let front = map string_bytes (take c.loop-id.id-index c.args.ids.now) in
    let cut = split_at string_bytes c.args.ids.now c.loop-id.id-index c.id-item.result c.loop-id-test.true c.id-item.is in
    rw e.1 (subst (PageFails begin end w u (map string_bytes c.args.ids.now)) (sym e.2)
    (page_fails begin mid end w v u front c.as_str.result.now c.loop-id.invariant.page c.export_one.ensures.reads (map string_bytes c.args.ids.now) cut.0 c.in_err-export_one.field-0.0
    (cut.1 ∙ ap (λ (x : List ℕ). front ++ x ∷ cut.0) (sym c.as_str.ensures.value)) c.in_err-export_one.ensures.wrote))

pub returns-in_err-export_one-clause-cause : goal.returns-in_err-export_one-clause-cause
returns-in_err-export_one-clause-cause g c =
    let e = err_from_is_err_and c.from_residual.result c.from_residual.ensures.1 in
    rw e.1 (subst (TellsWrite g.O.Output.contents g.O.Output.takes g.O.Output.fails c.args.out.now c.export_one.new.out) (sym e.2) (tells_then g.O.Output.contents g.O.Output.takes g.O.Output.fails _ _ _ _ c.loop-id.invariant.grew c.in_err-export_one.ensures.cause))
