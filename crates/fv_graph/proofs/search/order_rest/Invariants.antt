use Rattle.std.proofs.Common.{ℕ, ◌<◌, []}
use Rattle.fv_graph.specs.Search.{Searches, IsMarked}
use Rattle.fv_graph.proofs.search.order_rest.Given as goal

abbrev pub invariant-loop-node : goal.invariant-loop-node
invariant-loop-node l = record {
  searches : Searches l.edges l.marks.items l.order.items [];
  met : (i : ℕ) → i < l.node → IsMarked l.marks.items i;
}
