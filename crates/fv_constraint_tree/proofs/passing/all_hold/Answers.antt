use Rattle.std.proofs.Common.{◌≡◌, ◌∙◌, get_or, true, ap, sym, rules}
use Rattle.std.proofs.lemmas.Int.{to_z-of_z}
use Rattle.std.proofs.lemmas.List.{drop_all}
use Rattle.std.specs.List.{list_all}
use mir.Syntax.{w64}
use Rattle.fv_constraint_tree.proofs.Passed.{holds, passed_over}
use Rattle.fv_constraint_tree.proofs.passing.all_hold.Goals as goal

pub loop-node-preserved : goal.loop-node-preserved
loop-node-preserved c =
    λ m.
    let same = to_z-of_z w64 c.args.now c.ranges.now in
    let here : holds m c.args.now c.args.data.now c.node-item.result ≡ true = rw same at c.in_ok-holds_for_all.ensures m c.if-not-branch.false in
    let at : c.node-item.result ≡ get_or c.args.nodes.now c.loop-node.node-index c.node-item.result = search rules in
    rw same (passed_over m c.args.now c.args.data.now c.args.nodes.now c.loop-node.node-index c.node-item.result (search)
    (sym (ap (holds m c.args.now c.args.data.now) at) ∙ here) ∙ (rw same at c.loop-node.invariant m))

pub returns : goal.returns
returns c =
    λ m is.
    let same = to_z-of_z w64 c.args.now c.ranges.now in
    sym (rw same at c.loop-node.invariant m)
    ∙ ap (list_all (holds m c.args.now c.args.data.now)) (drop_all c.loop-node.node-index c.args.nodes.now c.loop-node-test.false)
