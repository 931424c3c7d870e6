use Rattle.std.proofs.Common.{take, sym, ap, ◌∷◌, ◌++◌, [], ◌∙◌}
use Rattle.std.proofs.lemmas.List.{take_more}
use Rattle.fv_store_tables.specs.Changes.{object_view}
use Rattle.fv_store_tables.specs.Inserting.{object_values}
use Rattle.fv_store_tables.proofs.NewObjects.{values_more}
use Rattle.fv_store_tables.proofs.inserting.values_of.Goals as goal

pub loop-object-preserved : goal.loop-object-preserved
loop-object-preserved c =
    let os = c.args.objects.now in
    let i = c.loop-object.object-index in
    let o = c.object-item.result in
    let more = take_more os i o c.loop-object-test.true ∙ ap (λ x. take i os ++ x ∷ []) (sym c.object-item.is) in
    c.in_ok-push_object.ensures ∙ ap (λ l. l ++ object_values (object_view o ∷ [])) c.loop-object.invariant ∙ sym (values_more c.args.id.now os i o more)
