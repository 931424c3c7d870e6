use Rattle.std.proofs.Common.{arith, ap, ◌<◌, [], List, length}
use Rattle.fv_graph.specs.declared.flatten.Spot.{Spot}
use Rattle.fv_graph.specs.declared.flatten.Branch.{Branch}
use Rattle.fv_graph.proofs.Moves.{is_below}
use Rattle.fv_graph.proofs.Growth.{all_pushed, one_pushed, begins_as}
use Rattle.fv_graph.proofs.flatten.preorder.Goals as goal

pub loop-branch-init : goal.loop-branch-init
loop-branch-init g c =
    let root : Spot g.row.H-Value.Denot = record { node = c.args.root; value = c.args.value; below = 0 } in
    let spots = one_pushed c.new-spots.result.items c.push.new.self.items root c.new-spots.ensures.items c.in_ok-push.ensures.items in
    let stack = one_pushed c.new-stack.result.items c.push-2.new.self.items (record { at = 0; edge = 0 }) c.new-stack.ensures.items c.in_ok-push-2.ensures.items in
    let one = ap (λ (l : List (Spot g.row.H-Value.Denot)). length l) spots in
    record {
      finished = begins_as g.H.Hand.seen (g.H.Hand.hands c.args.hand.now) c.args.edges.now c.push.new.self.items c.push-2.new.self.items c.args.root c.args.value (is_below c.args.edges.now c.requires.within) c.requires.acyclic spots stack;
      nodes = all_pushed (λ (s : Spot g.row.H-Value.Denot). s.node < length c.args.edges.now) [] c.push.new.self.items root spots tt c.requires.root;
      places = all_pushed (λ (b : Branch). b.at < length c.push.new.self.items) [] c.push-2.new.self.items (record { at = 0; edge = 0 }) stack tt (omega (arith, one));
    }
