-- Nodes that meet a cycle.
use Rattle.std.proofs.Common.{◌≡◌, ◌<◌, inl, inr, ℕ, zero, suc, List, [], ◌∷◌, ◌++◌, refl, sym, subst}
use Rattle.fv_graph.specs.Graph.{IsIn, LeadsIn, Leads, IsCyclic, MeetsCycle, IsBelow}
use Rattle.fv_ring.specs.Rings.{IsLinked, IsRing}

-- a node on the way to a cycle has an edge to another
pub goes_on : (next : ℕ → List ℕ) (i j more : ℕ) → LeadsIn next more i j → Leads next j j → (k : ℕ) × IsIn (next i) k × MeetsCycle next k
goes_on next i j zero edge cycle = (j, edge, (j, inl refl, cycle))
goes_on next i j (suc more) (k, edge, rest) cycle = (k, edge, (j, inr (more, rest), cycle))

pub meets_on : (next : ℕ → List ℕ) (i : ℕ) → MeetsCycle next i → (k : ℕ) × IsIn (next i) k × MeetsCycle next k
meets_on next i (j, inl e, cycle) = subst (λ (n : ℕ). (k : ℕ) × IsIn (next n) k × MeetsCycle next k) (sym e) (goes_on next j j cycle.0 cycle.1 cycle)
meets_on next i (j, inr lead, cycle) = goes_on next i j lead.0 lead.1 cycle

-- a node that leads to another is one of the graph
pub leads_below : (next : ℕ → List ℕ) (count i j more : ℕ) → IsBelow next count → LeadsIn next more i j → i < count
leads_below next count i j zero below edge = (below i j edge).0
leads_below next count i j (suc more) below (k, edge, rest) = (below i k edge).0

-- graphs with the same edges have the same cycles and rings
module _ (a b : ℕ → List ℕ) (same : (i : ℕ) → a i ≡ b i) where
  leads_same : (more i j : ℕ) → LeadsIn a more i j → LeadsIn b more i j
  leads_same zero i j h = subst (λ (l : List ℕ). IsIn l j) (same i) h
  leads_same (suc more) i j (k, h, l) = (k, subst (λ (l : List ℕ). IsIn l k) (same i) h, leads_same more k j l)

  pub cyclic_same : IsCyclic a → IsCyclic b
  cyclic_same (i, l) = (i, (l.0, leads_same l.0 i i l.1))

  linked_same : (is : List ℕ) → IsLinked a is → IsLinked b is
  linked_same [] h = tt
  linked_same (i ∷ []) h = tt
  linked_same (i ∷ j ∷ js) (edge, rest) = (subst (λ (l : List ℕ). IsIn l j) (same i) edge, linked_same (j ∷ js) rest)

  pub ring_same : (is : List ℕ) → IsRing a is → IsRing b is
  ring_same [] h = h
  ring_same (i ∷ is) h = linked_same (i ∷ is ++ i ∷ []) h
