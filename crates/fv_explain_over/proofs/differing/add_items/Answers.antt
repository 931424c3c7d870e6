use Rattle.std.proofs.Common.{◌≤◌, ◌<◌, max, length, ◌-◌, arith}
use Rattle.fv_explain_over.specs.Adding.{found_view}
use Rattle.fv_explain_over.proofs.ItemLemmas.{no_items_yet, item_added, items_added, back_is}
use Rattle.fv_explain_over.proofs.differing.add_items.Goals as goal

pub loop-index-init : goal.loop-index-init
loop-index-init c = no_items_yet _ _ _ _ _

pub loop-index-preserved : goal.loop-index-preserved
loop-index-preserved c =
    let vs = c.args.old.now in
    let ws = c.args.new.now in
    let back = c.same_back-back.result in
    let here : c.loop-index.index < max (length vs - back) (length ws - back) = omega (arith, c.loop-index-test.true, c.max-index-end.ensures) in
    item_added c.args.at.now c.same_front-front.result (length vs - back) (length ws - back) c.loop-index.index _ c.item_change.result
    c.in_ok-item.ensures (omega (arith, c.loop-index.auto.index)) (c.item_change.ensures here)
    (found_view c.args.found.now) (found_view c.loop-index.found) (found_view c.add.new.found) c.loop-index.invariant c.in_ok-add.ensures

pub returns : goal.returns
returns c =
    let vs = c.args.old.now in
    let ws = c.args.new.now in
    let front = c.same_front-front.result in
    let back = c.same_back-back.result in
    let end : max (length vs - back) (length ws - back) ≤ c.loop-index.index = omega (arith, c.loop-index-test.false, c.max-index-end.ensures) in
    items_added vs ws front back c.same_front-front.ensures.exact (found_view c.args.found.now) (found_view c.loop-index.found) c.args.at.now c.loop-index.index
    (back_is vs ws front back c.same_front-front.ensures.exact c.same_back-back.ensures.exact) end c.loop-index.invariant
