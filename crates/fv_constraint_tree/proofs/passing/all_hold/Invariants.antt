use Rattle.std.proofs.Common.{◌≡◌, drop}
use Rattle.std.specs.List.{list_all}
use Rattle.fv_constraint_tree.proofs.Passed.{holds}
use Rattle.fv_registry.specs.Meanings.{Meanings}
use Rattle.fv_constraint_tree.proofs.passing.all_hold.Given as goal

abbrev pub invariant-loop-node : goal.invariant-loop-node
invariant-loop-node l =
    (m : Meanings) → list_all (holds m l.fn.now l.data) (drop l.node-index l.nodes) ≡ list_all (holds m l.fn.now l.data) l.nodes
