use Rattle.std.proofs.Common.{◌≡◌, ◌<◌, length, map, reverse}
use Rattle.std.specs.List.{AllByRecursion}
use Rattle.fv_graph.specs.Graph.{next_of}
use Rattle.fv_graph.specs.Tree.{listed, tree_of, shown}
use Rattle.fv_graph.specs.Growing.{finished, left}
use Rattle.fv_graph.proofs.flatten.preorder.Given as goal

abbrev pub invariant-loop-branch : goal.invariant-loop-branch
invariant-loop-branch g l = record {
  finished : finished (g.H.Hand.hands l.hand) (next_of l.edges) (length l.edges) (map (shown g.H.Hand.seen) l.spots.items) (reverse l.stack.items) ≡ listed (tree_of (g.H.Hand.hands l.hand) (next_of l.edges) (length l.edges) l.root (g.H.Hand.seen l.fn.value));
  nodes : AllByRecursion (λ s. s.node < length l.edges) l.spots.items;
  places : AllByRecursion (λ b. b.at < length l.spots.items) l.stack.items;
}

abbrev pub decreases-loop-branch : goal.decreases-loop-branch
decreases-loop-branch g l = left (g.H.Hand.hands l.hand) (next_of l.edges) (length l.edges) (map (shown g.H.Hand.seen) l.spots.items) (reverse l.stack.items)
