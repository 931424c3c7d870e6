use Rattle.std.proofs.Common.{arith, length}
use Rattle.fv_graph.specs.Graph.{next_of}
use Rattle.fv_graph.proofs.Moves.{is_below}
use Rattle.fv_graph.proofs.Endings.{left_out, none_out}
use Rattle.fv_graph.proofs.search.order.Goals as goal

pub returns-then-len-edges : goal.returns-then-len-edges
returns-then-len-edges c =
    left_out (next_of c.args.edges.now) (length c.args.edges.now) c.in_ok-order.order.items c.in_ok-order.ensures (omega (arith, c.len.ensures))

pub returns : goal.returns
returns c =
    none_out (next_of c.args.edges.now) (length c.args.edges.now) c.in_ok-order.order.items (is_below c.args.edges.now c.requires) c.in_ok-order.ensures (omega (arith, c.len.ensures))
