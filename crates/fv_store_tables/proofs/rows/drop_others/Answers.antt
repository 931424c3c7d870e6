use Rattle.std.proofs.Common.{take, subst, ◌∙◌}
use Rattle.std.proofs.lemmas.List.{take_more, take_all}
use Rattle.sqlite.specs.Held.{state}
use Rattle.fv_store_tables.specs.Changes.{others_dropped, names_of, found_objects, objects_view}
use Rattle.fv_store_tables.specs.Steps.{Advances, Anyhow, Makes}
use Rattle.fv_store_tables.proofs.Steps.{next_step, keeps_then, frame_then}
use Rattle.fv_store_tables.proofs.Replaces.{dropped_more, next_drop_cause}
use Rattle.fv_store_tables.proofs.Refusals.{handed_on}
use Rattle.fv_store_tables.proofs.rows.drop_others.Goals as goal

pub there-preserved : goal.there-preserved
there-preserved g c =
    let was = c.there.invariant in
    let begin = state g.S.Store c.args.tx.now.conn.now in
    let mid = state g.S.Store c.there.tx.conn.now in
    let new = state g.S.Store c.drop_unless_kept.new.tx.conn.now in
    record {
      same = c.drop_unless_kept.ensures.same_reference ∙ was.same;
      frame = frame_then begin mid new was.frame c.drop_unless_kept.ensures.frame;
      limit = c.drop_unless_kept.ensures.limit ∙ was.limit;
      kept = λ now inside. let before = c.drop_unless_kept.ensures.frame.clean now in keeps_then begin mid new (was.kept before inside) (c.drop_unless_kept.ensures.kept now (was.done before inside).mode);
      done = λ now inside.
          let before = was.done (c.drop_unless_kept.ensures.frame.clean now) inside in
          next_step begin mid new (dropped_more c.args.id.now (objects_view c.args.objects.now) c.args.there.now c.there.row-index _ (take_more c.args.there.now c.there.row-index _ c.there-test.true)) before (c.in_ok-drop_unless_kept.ensures.done now before.mode);
    }

pub returns-clause-done : goal.returns-clause-done
returns-clause-done g c clean inside =
    subst (λ rs. Advances (state g.S.Store c.args.tx.now.conn.now) (state g.S.Store c.there.tx.conn.now) (Makes 0 Anyhow (others_dropped c.args.id.now (objects_view c.args.objects.now) (names_of (found_objects rs)))))
    (take_all c.there.row-index c.args.there.now c.there-test.false) (c.there.invariant.done clean inside)

pub returns-in_err-drop_unless_kept-clause-cause : goal.returns-in_err-drop_unless_kept-clause-cause
returns-in_err-drop_unless_kept-clause-cause g c clean inside none =
    let was = c.there.invariant in
    let begin = state g.S.Store c.args.tx.now.conn.now in
    let mid = state g.S.Store c.there.tx.conn.now in
    let new = state g.S.Store c.drop_unless_kept.new.tx.conn.now in
    let made = was.done (c.drop_unless_kept.ensures.frame.clean clean) inside in
    handed_on _ c.from_residual.result c.in_err-drop_unless_kept.field-0.0 c.from_residual.ensures.1
    (next_drop_cause begin mid new c.args.id.now (objects_view c.args.objects.now) (names_of (found_objects (take c.there.row-index c.args.there.now))) clean was.frame c.drop_unless_kept.ensures.frame made c.in_err-drop_unless_kept.field-0.0
    (c.in_err-drop_unless_kept.ensures.cause clean made.mode (was.limit ∙ none)))
