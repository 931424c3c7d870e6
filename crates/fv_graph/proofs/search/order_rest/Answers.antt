use Rattle.std.proofs.Common.{arith, length}
use Rattle.fv_graph.specs.Graph.{next_of}
use Rattle.fv_graph.proofs.Endings.{ends}
use Rattle.fv_graph.proofs.search.order_rest.Goals as goal

pub returns : goal.returns
returns c =
    ends (next_of c.args.edges.now) (length c.args.edges.now) c.loop-node.marks.items c.loop-node.order.items c.loop-node.invariant.searches
    (λ i h. c.loop-node.invariant.met i (omega arith))
