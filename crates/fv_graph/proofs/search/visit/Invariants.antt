use Rattle.fv_graph.specs.Search.{Searches, StayMarked, IsMarked, weighs}
use Rattle.fv_graph.proofs.search.visit.Given as goal

abbrev pub invariant-loop-frame : goal.invariant-loop-frame
invariant-loop-frame l = record {
  searches : Searches l.edges l.marks.items l.order.items l.stack.items;
  marked : StayMarked l.fn.marks.items l.marks.items;
  met : IsMarked l.marks.items l.node;
}

abbrev pub decreases-loop-frame : goal.decreases-loop-frame
decreases-loop-frame l = weighs l.edges l.marks.items l.stack.items
