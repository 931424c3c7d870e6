use Rattle.std.proofs.Common.{◌≡◌, ◌↔◌, ◌∙◌, ℕ, List, Bool, Vec, length, get_or, true, sym, ap, subst}
use Rattle.std.specs.declared.alloc.Global.{Global}
use Rattle.fv_graph.specs.Graph.{IsBelow, IsIn, next_of}
use Rattle.fv_graph.proofs.Moves.{is_below}
use Rattle.fv_declare_schema.specs.Marked.{AreReaching, ReachesMarked}
use Rattle.fv_declare_schema.proofs.Reaching.{both_ok, all_reaching}
use Rattle.fv_declare_schema.proofs.acyclic.Acyclic.reaching.Goals as goal

pub table-requires-clause-within : goal.table-requires-clause-within
table-requires-clause-within c =
    subst (λ (n : ℕ). IsBelow (next_of c.deref.result.now) n) (c.deref.ensures.len ∙ sym c.len.ensures)
    (is_below c.deref.result.now (rw c.deref.ensures.value c.self.invariant.within))

pub returns-clause-flags : goal.returns-clause-flags
returns-clause-flags c =
    let edges = c.self.inside.edges.items in
    let marked = c.args.marked.now in
    both_ok c.table.result c.table.ensures.len c.table.ensures.right
    (λ (flags : Vec Bool Global) long right.
    (let here : (i : ℕ) (d : Bool) → IsIn c.self.inside.order.items i → (get_or flags.items i d ≡ true) ↔ ReachesMarked (next_of edges) marked i =
    λ i d h. subst (λ (es : List (Vec ℕ Global)). (get_or flags.items i d ≡ true) ↔ ReachesMarked (next_of es) marked i) c.deref.ensures.value
    (right i d (subst (λ (o : List ℕ). IsIn o i) (sym c.deref-2.ensures.value) h)) in
    subst (λ (es : List (Vec ℕ Global)). AreReaching (next_of es) (length es) marked flags.items) c.self.view_is
    (all_reaching edges c.self.inside.order.items marked flags.items c.len.result c.self.invariant (c.len.ensures ∙ sym c.deref.ensures.len ∙ ap length c.deref.ensures.value) long here)))
