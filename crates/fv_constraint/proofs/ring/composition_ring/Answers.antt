use Rattle.std.proofs.Common.{map, refl, ap, ◌∙◌}
use Rattle.fv_constraint.proofs.Ringed.{next_composed, ring_told}
use Rattle.fv_constraint.proofs.Unfolded.{are_within}
use Rattle.fv_constraint.specs.Numbered.{edges_of}
use Rattle.fv_constraint.specs.Whereabouts.{composed_numbers}
use Rattle.fv_declare_definition.specs.DefinitionViews.{definition_entry}
use Rattle.fv_graph.specs.Graph.{next_of}
use Rattle.fv_constraint.proofs.ring.composition_ring.Goals as goal

pub ring-requires : goal.ring-requires
ring-requires c = rw c.deref.ensures.value (are_within c.in_ok-numbers.numbers c.in_ok-edges.edges.items c.in_ok-edges.ensures)

pub returns : goal.returns
returns c =
    let ds = map definition_entry c.args.definitions.now.entries in
    let edges = c.deref.result.now in
    let are = ap (map (λ nodes. nodes.items)) c.deref.ensures.value ∙ c.in_ok-edges.ensures ∙ ap edges_of c.in_ok-numbers.ensures in
    ring_told ds edges are c.ring.result (c.ring.ensures (next_of edges) (λ n. refl)) (c.ring.ensures (composed_numbers ds) (next_composed ds edges are))
