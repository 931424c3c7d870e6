use Rattle.std.proofs.Common.{◌≡◌, [], true, sym, ap, ◌∙◌, rules}
use Rattle.fv_bundle.specs.Views.{fields_left, object_view}
use Rattle.fv_model.proofs.InOrder.{rises, shown, added-in_order, closes}
use Rattle.fv_model.proofs.text.put_fields.Goals as goal

pub returns : goal.returns
returns c =
    let l = c.loop-name in
    let fields = (object_view c.args.object.now).fields in
    let left : shown (fields_left l.name-iterator) ≡ [] = search rules in
    let ordered : rises [] (shown fields) ≡ true = sym l.invariant.3 ∙ ap (rises l.last.now) left in
    rw (added-in_order fields ordered) (closes _ _ l.out.tokens _ _ _ c.in_ok-begin_object.ensures.ok l.invariant.1 left c.in_ok-end_object.ensures.ok, search rules)
