use Rattle.std.proofs.lemmas.Int.{to_z-of_z}
use mir.Syntax.{w64}
use Rattle.fv_constraint_tree.proofs.Passed.{some_node, passed}
use Rattle.fv_constraint_tree.proofs.passing.passes_all.Goals as goal

pub split_at-requires : goal.split_at-requires
split_at-requires c = some_node c.args.occurrence.now

pub returns-in_ok-all_hold : goal.returns-in_ok-all_hold
returns-in_ok-all_hold c =
    λ m is.
    let same = to_z-of_z w64 c.args.now c.ranges.now in
    passed m c.args.now c.args.occurrence.now c.split_at.result.0.now c.split_at.result.1.now c.args.data.now c.split_at.ensures
    (rw same at c.in_ok-holds_for_all.ensures m c.if-branch.true) (rw same at c.in_ok-all_hold.ensures m is)
