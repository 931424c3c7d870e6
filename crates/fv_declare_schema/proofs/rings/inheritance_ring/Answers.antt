use Rattle.std.proofs.Common.{◌≡◌, ℕ, List, Vec, length, subst, sym}
use Rattle.std.specs.declared.alloc.Global.{Global}
use Rattle.fv_graph.specs.Graph.{next_of, AreWithin}
use Rattle.fv_declare_schema.specs.GroupViews.{declared_view}
use Rattle.fv_declare_schema.specs.Groups.{Groups, all_groups, inherit_next}
use Rattle.fv_declare_schema.specs.Tables.{AreEdges}
use Rattle.fv_declare_schema.proofs.Edges.{inherited_edges, inherited_within}
use Rattle.fv_declare_schema.proofs.rings.inheritance_ring.Goals as goal

pub ring-requires : goal.ring-requires
ring-requires c =
    let gs : Groups = c.new-groups.result in
    let edges = c.in_ok-edges.edges.items in
    subst AreWithin (sym c.deref.ensures.value) (inherited_within gs edges (inherited_edges gs edges c.in_ok-edges.ensures))

pub returns : goal.returns
returns c =
    let gs : Groups = c.new-groups.result in
    let edges = c.in_ok-edges.edges.items in
    let are : AreEdges (inherit_next gs) (length gs) edges = inherited_edges gs edges c.in_ok-edges.ensures in
    let same : (i : ℕ) → next_of c.deref.result.now i ≡ inherit_next (all_groups (declared_view c.args.declared)) i =
    λ i. subst (λ (es : Groups). next_of c.deref.result.now i ≡ inherit_next es i) c.new-groups.ensures (subst (λ (vs : List (Vec ℕ Global)). next_of vs i ≡ inherit_next gs i) (sym c.deref.ensures.value) (are.1 i)) in
    c.ring.ensures (inherit_next (all_groups (declared_view c.args.declared))) same
