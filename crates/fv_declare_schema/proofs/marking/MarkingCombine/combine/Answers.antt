use Rattle.std.proofs.Common.{arith, get_or, refl, sym, subst, ◌∙◌, ◌≡◌, ℕ, List, false}
use Rattle.fv_graph.specs.Graph.{IsIn, next_of}
use Rattle.fv_graph.proofs.Totals.{edge_at, edges_at, take_all}
use Rattle.fv_declare_schema.specs.Marked.{flag_of, ReachesMarked}
use Rattle.fv_declare_schema.proofs.Reaching.{marked_on, none_marked, no_more, true_false}
use Rattle.fv_declare_schema.proofs.marking.MarkingCombine.combine.Goals as goal

pub at-requires : goal.at-requires
at-requires c =
    let items = edges_at c.args.self.now.edges.now c.args.node c.index-self-node.result c.deref-next-items.result.now c.requires.node c.index-self-node.is c.deref-next-items.ensures.value in
    (c.requires.below (get_or c.deref-next-items.result.now c.loop-next.next-index 0) (edge_at (next_of c.args.self.now.edges.now c.args.node) c.deref-next-items.result.now c.loop-next.next-index items (omega arith))).0

pub returns-then-at : goal.returns-then-at
returns-then-at c =
    let next = next_of c.args.self.now.edges.now in
    let j = get_or c.deref-next-items.result.now c.loop-next.next-index 0 in
    let items = edges_at c.args.self.now.edges.now c.args.node c.index-self-node.result c.deref-next-items.result.now c.requires.node c.index-self-node.is c.deref-next-items.ensures.value in
    let edge = edge_at (next c.args.node) c.deref-next-items.result.now c.loop-next.next-index items (omega arith) in
    let there = (c.requires.below j edge).1 c.at.result.now in
    (λ e. marked_on next c.args.self.now.marked.now c.args.node j edge (there.0 (sym c.at.ensures ∙ c.if-at.true)), λ r. refl)

pub loop-next-preserved : goal.loop-next-preserved
loop-next-preserved c =
    let next = next_of c.args.self.now.edges.now in
    let marked = c.args.self.now.marked.now in
    let j = get_or c.deref-next-items.result.now c.loop-next.next-index 0 in
    let items = edges_at c.args.self.now.edges.now c.args.node c.index-self-node.result c.deref-next-items.result.now c.requires.node c.index-self-node.is c.deref-next-items.ensures.value in
    let edge = edge_at (next c.args.node) c.deref-next-items.result.now c.loop-next.next-index items (omega arith) in
    let there = (c.requires.below j edge).1 c.at.result.now in
    no_more (ReachesMarked next marked) c.deref-next-items.result.now c.loop-next.next-index j (omega arith) refl c.loop-next.invariant
    (λ r. true_false (there.1 r) (sym c.at.ensures ∙ c.if-at.false))

pub returns : goal.returns
returns c =
    let next = next_of c.args.self.now.edges.now in
    let marked = c.args.self.now.marked.now in
    let items = edges_at c.args.self.now.edges.now c.args.node c.index-self-node.result c.deref-next-items.result.now c.requires.node c.index-self-node.is c.deref-next-items.ensures.value in
    let all = take_all c.deref-next-items.result.now c.loop-next.next-index (omega arith) ∙ items in
    let plain : flag_of marked c.args.node ≡ false = grind arith in (
      λ e. absurd (true_false e refl),
      λ r. absurd (none_marked next marked c.args.node plain
          (subst (λ (l : List ℕ). (k : ℕ) → IsIn l k → ReachesMarked next marked k → ⊥) all c.loop-next.invariant) r),
    )
