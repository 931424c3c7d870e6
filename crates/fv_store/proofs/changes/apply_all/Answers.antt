use Rattle.std.proofs.Common.{take, subst, sym, ap, ◌∷◌, ◌++◌, [], ◌∙◌}
use Rattle.std.proofs.lemmas.List.{take_more}
use Rattle.sqlite.specs.Held.{state}
use Rattle.fv_store.specs.Steps.{Advances, MakesAll}
use Rattle.fv_store.proofs.Steps.{next_step, one_more, keeps_then, frame_then, step_cause}
use Rattle.fv_store.proofs.Refusals.{handed_on}
use Rattle.fv_store.proofs.changes.apply_all.Goals as goal

pub changes-preserved : goal.changes-preserved
changes-preserved g c =
    let was = c.changes.invariant in
    let begin = state g.S.Store c.args.tx.now.conn.now in
    let mid = state g.S.Store c.changes.tx.conn.now in
    let new = state g.S.Store c.apply.new.tx.conn.now in
    let more = take_more c.args.changes.now c.changes.change-index c.change-item.result c.changes-test.true ∙ ap (λ x. take c.changes.change-index c.args.changes.now ++ x ∷ []) (sym c.change-item.is) in
    record {
      same = c.apply.ensures.same_reference ∙ was.same;
      frame = frame_then begin mid new was.frame c.apply.ensures.frame;
      limit = c.apply.ensures.limit ∙ was.limit;
      kept = λ now inside. let before = c.apply.ensures.frame.clean now in keeps_then begin mid new (was.kept before inside) (c.apply.ensures.kept now (was.done before inside).mode);
      done = λ now inside.
          let before = was.done (c.apply.ensures.frame.clean now) inside in
          subst (λ xs. Advances begin new (MakesAll xs)) (sym more)
          (next_step begin mid new (one_more (take c.changes.change-index c.args.changes.now) c.change-item.result) before (c.in_ok-apply.ensures.done now before.mode));
    }

pub returns-in_err-apply-clause-cause : goal.returns-in_err-apply-clause-cause
returns-in_err-apply-clause-cause g c clean inside none =
    let was = c.changes.invariant in
    let begin = state g.S.Store c.args.tx.now.conn.now in
    let mid = state g.S.Store c.changes.tx.conn.now in
    let new = state g.S.Store c.apply.new.tx.conn.now in
    let made = was.done (c.apply.ensures.frame.clean clean) inside in
    handed_on _ c.from_residual.result c.in_err-apply.field-0.0 c.from_residual.ensures.1
    (step_cause begin mid new c.args.changes.now c.changes.change-index c.change-item.result c.changes-test.true c.change-item.is clean was.frame c.apply.ensures.frame made c.in_err-apply.field-0.0
    (c.in_err-apply.ensures.cause clean made.mode (was.limit ∙ none)))
