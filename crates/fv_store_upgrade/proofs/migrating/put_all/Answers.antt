use Rattle.std.proofs.Common.{take, subst, sym, ap, ◌∷◌, ◌++◌, [], ◌∙◌}
use Rattle.std.proofs.lemmas.List.{take_more}
use Rattle.sqlite.specs.Held.{state}
use Rattle.fv_store_tables.specs.Steps.{Advances}
use Rattle.fv_store_tables.proofs.Refusals.{handed_on}
use Rattle.fv_store_tables.proofs.Steps.{next_step, keeps_then, frame_then}
use Rattle.fv_store_upgrade.specs.Steps.{Puts, news_view}
use Rattle.fv_store_upgrade.proofs.Steps.{one_record, step_cause}
use Rattle.fv_store_upgrade.proofs.migrating.put_all.Goals as goal

pub records-preserved : goal.records-preserved
records-preserved g c =
    let was = c.records.invariant in
    let begin = state g.S.Store c.args.tx.now.conn.now in
    let mid = state g.S.Store c.records.tx.conn.now in
    let new = state g.S.Store c.put.new.tx.conn.now in
    let more = take_more c.args.records.now c.records.record-index c.record-item.result c.records-test.true ∙ ap (λ x. take c.records.record-index c.args.records.now ++ x ∷ []) (sym c.record-item.is) in
    record {
      same = c.put.ensures.same_reference ∙ was.same;
      frame = frame_then begin mid new was.frame c.put.ensures.frame;
      limit = c.put.ensures.limit ∙ was.limit;
      kept = λ now inside. let before = c.put.ensures.frame.clean now in keeps_then begin mid new (was.kept before inside) (c.put.ensures.kept now (was.done before inside).mode);
      done = λ now inside.
          let before = was.done (c.put.ensures.frame.clean now) inside in
          subst (λ xs. Advances begin new (Puts (news_view xs))) (sym more)
          (next_step begin mid new (one_record (take c.records.record-index c.args.records.now) c.record-item.result) before (c.in_ok-put.ensures.done now before.mode));
    }

pub returns-in_err-put-clause-cause : goal.returns-in_err-put-clause-cause
returns-in_err-put-clause-cause g c clean inside none =
    let was = c.records.invariant in
    let begin = state g.S.Store c.args.tx.now.conn.now in
    let mid = state g.S.Store c.records.tx.conn.now in
    let new = state g.S.Store c.put.new.tx.conn.now in
    let made = was.done (c.put.ensures.frame.clean clean) inside in
    handed_on _ c.from_residual.result c.in_err-put.field-0.0 c.from_residual.ensures.1
    (step_cause begin mid new c.args.records.now c.records.record-index c.record-item.result c.records-test.true c.record-item.is clean was.frame c.put.ensures.frame made c.in_err-put.field-0.0
    (c.in_err-put.ensures.cause clean made.mode (was.limit ∙ none)))
