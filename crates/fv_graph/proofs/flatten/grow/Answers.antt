use Rattle.std.proofs.Common.{arith, ◌<◌, length}
use Rattle.fv_graph.specs.declared.flatten.Spot.{Spot}
use Rattle.fv_graph.specs.declared.flatten.Branch.{Branch}
use Rattle.fv_graph.proofs.Moves.{is_below, edge_within}
use Rattle.fv_graph.proofs.Growth.{all_pushed, all_front, all_at, nodes_kept, places_kept, places_pushed, last_move, edge_move}
use Rattle.fv_graph.proofs.flatten.grow.Goals as goal

pub returns-then-branch-len-clause-nodes : goal.returns-then-branch-len-clause-nodes
returns-then-branch-len-clause-nodes g c =
    nodes_kept (length c.args.edges.now) c.args.branch.at c.args.spots.now.items c.close.new.spots.items c.close.ensures c.requires.nodes

pub returns-then-branch-len-clause-places : goal.returns-then-branch-len-clause-places
returns-then-branch-len-clause-places g c =
    places_kept c.args.branch.at c.args.spots.now.items c.close.new.spots.items c.args.stack.now.items c.args.branch c.close.ensures c.requires.places

pub returns-then-branch-len-clause-step : goal.returns-then-branch-len-clause-step
returns-then-branch-len-clause-step g c =
    let less = (all_front (λ (b : Branch). b.at < length c.args.spots.now.items) c.args.stack.now.items c.args.branch c.requires.places).1 in
    let small = all_at (λ (s : Spot g.row.H-Value.Denot). s.node < length c.args.edges.now) c.args.spots.now.items c.args.branch.at c.index-spot.result.now c.requires.nodes less c.index-spot.ensures in
    last_move g.H.Hand.seen (g.H.Hand.hands c.args.hand.now) c.args.edges.now c.args.spots.now.items c.close.new.spots.items c.args.stack.now.items c.args.branch c.index-spot.result.now c.index-edges-spot.result
    less c.index-spot.ensures small c.index-edges-spot.is (omega arith) c.close.ensures

pub returns-clause-nodes : goal.returns-clause-nodes
returns-clause-nodes g c =
    let less = (all_front (λ (b : Branch). b.at < length c.args.spots.now.items) c.args.stack.now.items c.args.branch c.requires.places).1 in
    let small = all_at (λ (s : Spot g.row.H-Value.Denot). s.node < length c.args.edges.now) c.args.spots.now.items c.args.branch.at c.index-spot.result.now c.requires.nodes less c.index-spot.ensures in
    all_pushed (λ (s : Spot g.row.H-Value.Denot). s.node < length c.args.edges.now) c.args.spots.now.items c.push-3.new.self.items (record { node = c.index-node.result.now; value = c.in_ok-value.value; below = 0 }) c.in_ok-push-3.ensures.items c.requires.nodes
    (edge_within c.args.edges.now c.index-spot.result.now.node c.args.branch.edge c.index-node.result.now c.index-edges-spot.result c.requires.within small c.index-edges-spot.is (omega arith) c.index-node.ensures)

pub returns-clause-places : goal.returns-clause-places
returns-clause-places g c =
    places_pushed c.args.spots.now.items c.push-3.new.self.items (record { node = c.index-node.result.now; value = c.in_ok-value.value; below = 0 }) c.args.stack.now.items c.push.new.self.items c.push-2.new.self.items c.args.branch c.len-2.result
    c.in_ok-push-3.ensures.items (omega (arith, c.len-2.ensures)) c.in_ok-push.ensures.items c.in_ok-push-2.ensures.items c.requires.places

pub returns-clause-step : goal.returns-clause-step
returns-clause-step g c =
    let less = (all_front (λ (b : Branch). b.at < length c.args.spots.now.items) c.args.stack.now.items c.args.branch c.requires.places).1 in
    let small = all_at (λ (s : Spot g.row.H-Value.Denot). s.node < length c.args.edges.now) c.args.spots.now.items c.args.branch.at c.index-spot.result.now c.requires.nodes less c.index-spot.ensures in
    edge_move g.H.Hand.seen (g.H.Hand.hands c.args.hand.now) c.args.edges.now c.args.spots.now.items c.push-3.new.self.items c.args.stack.now.items c.push.new.self.items c.push-2.new.self.items c.args.branch c.index-spot.result.now c.index-edges-spot.result
    c.index-node.result.now c.len-2.result c.in_ok-value.value (is_below c.args.edges.now c.requires.within) c.requires.acyclic less c.index-spot.ensures small c.index-edges-spot.is (omega arith) c.index-node.ensures
    c.in_ok-value.ensures (omega (arith, c.len-2.ensures)) c.in_ok-push.ensures.items c.in_ok-push-2.ensures.items c.in_ok-push-3.ensures.items
