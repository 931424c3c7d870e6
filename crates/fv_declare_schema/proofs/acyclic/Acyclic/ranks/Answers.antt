use Rattle.std.proofs.Common.{◌≡◌, ◌∙◌, ℕ, List, Vec, length, get_or, sym, ap, subst}
use Rattle.std.specs.declared.alloc.Global.{Global}
use Rattle.fv_graph.specs.Graph.{IsBelow, IsIn, next_of}
use Rattle.fv_graph.specs.Recursion.{value}
use Rattle.fv_graph.proofs.Moves.{is_below}
use Rattle.fv_declare_schema.specs.Groups.{ranked}
use Rattle.fv_declare_schema.specs.Marked.{flag_of}
use Rattle.fv_declare_schema.specs.Tables.{indices, AreRanks}
use Rattle.fv_declare_schema.specs.declared.declared.GroupId.{GroupId}
use Rattle.fv_declare_schema.proofs.Reaching.{both_ok, all_ranks}
use Rattle.fv_declare_schema.proofs.acyclic.Acyclic.ranks.Goals as goal

pub table-requires-clause-within : goal.table-requires-clause-within
table-requires-clause-within c =
    subst (λ (n : ℕ). IsBelow (next_of c.deref.result.now) n) (c.deref.ensures.len ∙ sym c.len.ensures)
    (is_below c.deref.result.now (rw c.deref.ensures.value c.self.invariant.within))

pub returns : goal.returns
returns c =
    let edges = c.self.inside.edges.items in
    let flags = c.args.sequences.now in
    both_ok c.table.result c.table.ensures.len c.table.ensures.right
    (λ (rows : Vec (Vec GroupId Global) Global) long right.
    (let here : (i : ℕ) (d : Vec GroupId Global) → IsIn c.self.inside.order.items i → indices (get_or rows.items i d).items ≡ value (ranked (flag_of flags)) (next_of edges) (length edges) i =
    λ i d h. subst (λ (es : List (Vec ℕ Global)). indices (get_or rows.items i d).items ≡ value (ranked (flag_of flags)) (next_of es) (length es) i) c.deref.ensures.value
    (right i d (subst (λ (o : List ℕ). IsIn o i) (sym c.deref-2.ensures.value) h)) in
    subst (λ (es : List (Vec ℕ Global)). AreRanks (value (ranked (flag_of flags)) (next_of es) (length es)) (length es) rows.items) c.self.view_is
    (all_ranks edges c.self.inside.order.items rows.items c.len.result (value (ranked (flag_of flags)) (next_of edges) (length edges)) c.self.invariant (c.len.ensures ∙ sym c.deref.ensures.len ∙ ap length c.deref.ensures.value) long here)))
