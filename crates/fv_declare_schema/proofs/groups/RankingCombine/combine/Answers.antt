use Rattle.std.proofs.Common.{arith, get_or, sym, ap, ◌∙◌, ◌∷◌, [], List, ℕ, length, map, ◌≡◌, Vec, Bool, cond, true}
use Rattle.std.specs.List.{concat}
use Rattle.std.specs.declared.alloc.Global.{Global}
use Rattle.fv_graph.specs.Graph.{next_of}
use Rattle.fv_graph.specs.Recursion.{value}
use Rattle.fv_graph.proofs.Totals.{edge_at, edges_at, take_all}
use Rattle.fv_graph.proofs.Unfolding.{unfolds_at}
use Rattle.fv_declare_schema.specs.Groups.{ranked}
use Rattle.fv_declare_schema.specs.Marked.{flag_of}
use Rattle.fv_declare_schema.specs.Once.{once}
use Rattle.fv_declare_schema.specs.Tables.{indices}
use Rattle.fv_declare_schema.specs.declared.declared.GroupId.{GroupId}
use Rattle.fv_declare_schema.proofs.Ranks.{gather_step}
use Rattle.fv_declare_schema.proofs.groups.RankingCombine.combine.Goals as goal

pub at-requires : goal.at-requires
at-requires c =
    let items = edges_at c.args.self.now.edges.now c.args.node c.index-self-node.result c.deref-next-items.result.now c.requires.node c.index-self-node.is c.deref-next-items.ensures.value in
    (c.requires.below (get_or c.deref-next-items.result.now c.loop-next.next-index 0) (edge_at (next_of c.args.self.now.edges.now c.args.node) c.deref-next-items.result.now c.loop-next.next-index items (omega arith))).0

pub loop-next-preserved : goal.loop-next-preserved
loop-next-preserved c =
    let items = edges_at c.args.self.now.edges.now c.args.node c.index-self-node.result c.deref-next-items.result.now c.requires.node c.index-self-node.is c.deref-next-items.ensures.value in
    let there = c.requires.below (get_or c.deref-next-items.result.now c.loop-next.next-index 0) (edge_at (next_of c.args.self.now.edges.now c.args.node) c.deref-next-items.result.now c.loop-next.next-index items (omega arith)) in
    gather_step (λ j. value (ranked (flag_of c.args.self.now.sequences.now)) (next_of c.args.self.now.edges.now) (length c.args.self.now.edges.now) j)
    c.deref-next-items.result.now c.loop-next.next-index (indices c.loop-next.ranks.items) (indices c.deref.result.now) (indices c.add_new.new.groups.items)
    (omega arith) c.loop-next.invariant (ap (λ (gs : List GroupId). indices gs) (c.deref.ensures.value ∙ ap (λ (v : Vec GroupId Global). v.items) c.at.ensures) ∙ there.1 c.at.result.now) c.in_ok-add_new.ensures

pub returns : goal.returns
returns c =
    let items = edges_at c.args.self.now.edges.now c.args.node c.index-self-node.result c.deref-next-items.result.now c.requires.node c.index-self-node.is c.deref-next-items.ensures.value in
    let all = take_all c.deref-next-items.result.now c.loop-next.next-index (omega arith) in
    let flag : flag_of c.args.self.now.sequences.now c.args.node ≡ true = grind arith in
    let f = λ (j : ℕ). value (ranked (flag_of c.args.self.now.sequences.now)) (next_of c.args.self.now.edges.now) (length c.args.self.now.edges.now) j in
    c.loop-next.invariant
    ∙ ap (λ (l : List ℕ). once (concat (map f l))) (all ∙ items)
    ∙ sym (unfolds_at (ranked (flag_of c.args.self.now.sequences.now)) (next_of c.args.self.now.edges.now) (length c.args.self.now.edges.now) c.requires.within c.args.node c.requires.no_cycle
    ∙ ap (λ (b : Bool). cond b (once (concat (map f (next_of c.args.self.now.edges.now c.args.node)))) (c.args.node ∷ [])) flag)
