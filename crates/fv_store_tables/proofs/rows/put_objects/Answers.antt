use Rattle.std.proofs.Common.{◌≡◌, length, arith, subst₂, take, sym, ap, ◌∷◌, ◌++◌, [], ◌∙◌}
use Rattle.std.proofs.lemmas.List.{take_more}
use Rattle.sqlite.specs.Held.{state}
use Rattle.fv_store_tables.specs.Changes.{all_added, found_objects, objects_view}
use Rattle.fv_store_tables.specs.Steps.{Advances, AreThere, Makes}
use Rattle.fv_store_tables.proofs.Steps.{next_step, keeps_then, frame_then}
use Rattle.fv_store_tables.proofs.Objects.{all_taken_in}
use Rattle.fv_store_tables.proofs.Replaces.{part_more, parts_cause}
use Rattle.fv_store_tables.proofs.Refusals.{handed_on}
use Rattle.fv_store_tables.proofs.rows.put_objects.Goals as goal

pub objects-preserved : goal.objects-preserved
objects-preserved g c =
    let was = c.objects.invariant in
    let begin = state g.S.Store c.args.tx.now.conn.now in
    let mid = state g.S.Store c.objects.tx.conn.now in
    let new = state g.S.Store c.put_among.new.tx.conn.now in
    let more = take_more c.args.objects.now c.objects.object-index c.object-item.result c.objects-test.true ∙ ap (λ x. take c.objects.object-index c.args.objects.now ++ x ∷ []) (sym c.object-item.is) in
    record {
      same = c.put_among.ensures.same_reference ∙ was.same;
      frame = frame_then begin mid new was.frame c.put_among.ensures.frame;
      limit = c.put_among.ensures.limit ∙ was.limit;
      kept = λ now inside. let before = c.put_among.ensures.frame.clean now in keeps_then begin mid new (was.kept before inside) (c.put_among.ensures.kept now (was.done before inside).mode);
      done = λ now inside.
          let before = was.done (c.put_among.ensures.frame.clean now) inside in
          next_step begin mid new (part_more c.args.id.now (found_objects c.args.there.now) c.args.objects.now c.objects.object-index c.object-item.result more) before (c.in_ok-put_among.ensures.done now before.mode);
    }

pub returns-clause-done : goal.returns-clause-done
returns-clause-done g c clean inside =
    let count : c.objects.object-index ≡ length c.args.objects.now = omega (arith, c.objects-test.false, c.objects.auto.object-index-end) in
    subst₂ (λ i os. Advances (state g.S.Store c.args.tx.now.conn.now) (state g.S.Store c.objects.tx.conn.now) (Makes i (AreThere c.args.id.now (found_objects c.args.there.now) (objects_view c.args.objects.now)) (all_added c.args.id.now (objects_view os))))
    count (all_taken_in c.objects.object-index c.args.objects.now c.objects-test.false) (c.objects.invariant.done clean inside)

pub returns-in_err-put_among-clause-cause : goal.returns-in_err-put_among-clause-cause
returns-in_err-put_among-clause-cause g c clean inside none =
    let was = c.objects.invariant in
    let begin = state g.S.Store c.args.tx.now.conn.now in
    let mid = state g.S.Store c.objects.tx.conn.now in
    let new = state g.S.Store c.put_among.new.tx.conn.now in
    let made = was.done (c.put_among.ensures.frame.clean clean) inside in
    let more = take_more c.args.objects.now c.objects.object-index c.object-item.result c.objects-test.true ∙ ap (λ x. take c.objects.object-index c.args.objects.now ++ x ∷ []) (sym c.object-item.is) in
    handed_on _ c.from_residual.result c.in_err-put_among.field-0.0 c.from_residual.ensures.1
    (parts_cause begin mid new c.args.id.now (found_objects c.args.there.now) c.args.objects.now c.objects.object-index c.object-item.result c.objects-test.true more clean was.frame c.put_among.ensures.frame made c.in_err-put_among.field-0.0
    (c.in_err-put_among.ensures.cause clean made.mode (was.limit ∙ none)))
