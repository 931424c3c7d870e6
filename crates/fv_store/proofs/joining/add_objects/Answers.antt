use Rattle.std.proofs.Common.{string_bytes, ◌∙◌, rules}
use Rattle.fv_store.proofs.Joined.{one_more}
use Rattle.fv_store.proofs.joining.add_objects.Goals as goal

pub loop-object-preserved : goal.loop-object-preserved
loop-object-preserved c =
    let l = c.loop-object in (
      search rules,
      one_more c.args.objects.now l.object-index _ (string_bytes l.text) l.comma.now _ _ c.loop-object-test.true c.in_ok-push_str.ensures.bytes c.in_ok-add_object.ensures ∙ l.invariant.1,
    )
