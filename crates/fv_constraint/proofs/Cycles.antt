-- A constraint is composed of itself exactly where the graph of the definitions has a cycle.
use Rattle.std.proofs.Common.{◌≡◌, ◌<◌, ◌≤◌, ℕ, suc, zero, List, [], ◌∷◌, map, length, Vec, inl, inr, sym, ap, subst, arith}
use Rattle.std.specs.declared.alloc.Global.{Global}
use Rattle.fv_graph.specs.Graph.{IsIn, LeadsIn, next_of}
use Rattle.fv_graph.specs.Graph as graph
use Rattle.fv_declare_definition.specs.Definitions.{Definitions}
use Rattle.fv_constraint.specs.Composed.{composed_of, ComposesIn, ComposesItself}
use Rattle.fv_constraint.specs.Numbered.{number_of, edges_of}
use Rattle.fv_constraint.proofs.Numbering.{next_is, last_is, edge_named, in_map, number_same, number_within}

map_in : {X Y : Type 0} (f : X → Y) (xs : List X) (x : X) → IsIn xs x → IsIn (map f xs) (f x)
map_in f [] x h = absurd h
map_in f (y ∷ ys) x (inl e) = inl (ap f e)
map_in f (y ∷ ys) x (inr h) = inr (map_in f ys x h)

module _ (ds : Definitions) (edges : List (Vec ℕ Global)) (are : map (λ nodes. nodes.items) edges ≡ edges_of ds) where
  step_in : (a b : List ℕ) → IsIn (composed_of ds a) b → IsIn (next_of edges (number_of ds a)) (number_of ds b)
  step_in a b h = rw (next_is ds edges are a) (map_in (number_of ds) (composed_of ds a) b h)

  step_out : (a : List ℕ) (j : ℕ) → IsIn (next_of edges (number_of ds a)) j → (b : List ℕ) × IsIn (composed_of ds a) b × (number_of ds b ≡ j)
  step_out a j h = let m = rw (next_is ds edges are a) at h in in_map (number_of ds) (composed_of ds a) j m

  chain_in : (further : ℕ) (a b : List ℕ) → ComposesIn ds further a b → LeadsIn (next_of edges) further (number_of ds a) (number_of ds b)
  chain_in zero a b h = step_in a b h
  chain_in (suc further) a b h = (number_of ds h.0, step_in a h.0 h.1, chain_in further h.0 b h.2)

  chain_out : (further : ℕ) (a : List ℕ) (j : ℕ) → LeadsIn (next_of edges) further (number_of ds a) j → (b : List ℕ) × ComposesIn ds further a b × (number_of ds b ≡ j)
  chain_out zero a j h = step_out a j h
  chain_out (suc further) a j h =
      let s = step_out a h.0 h.1 in
      let on : LeadsIn (next_of edges) further (number_of ds s.0) j = subst (λ (k : ℕ). LeadsIn (next_of edges) further k j) (sym s.2) h.2 in
      let r = chain_out further s.0 j on in
      (r.0, (s.0, s.1, r.1), r.2)

  -- a chain ends at the node of a name
  chain_end : (further i j : ℕ) → LeadsIn (next_of edges) further i j → (b : List ℕ) × (number_of ds b ≡ j)
  chain_end zero i j h = edge_named ds edges are i j h
  chain_end (suc further) i j h = chain_end further h.0 j h.2

  -- a chain begins at the node of a definition
  chain_start : (further i j : ℕ) → LeadsIn (next_of edges) further i j → i ≡ length ds → ⊥
  chain_start zero i j h e = let none : IsIn (next_of edges (length ds)) j = subst (λ (k : ℕ). IsIn (next_of edges k) j) e h in rw (last_is ds edges are) at none
  chain_start (suc further) i j h e = let none : IsIn (next_of edges (length ds)) h.0 = subst (λ (k : ℕ). IsIn (next_of edges k) h.0) e h.1 in rw (last_is ds edges are) at none

  pub cyclic_in : ComposesItself ds → graph.IsCyclic (next_of edges)
  cyclic_in h = (number_of ds h.0, (h.1, chain_in h.1 h.0 h.0 h.2))

  pub cyclic_out : graph.IsCyclic (next_of edges) → ComposesItself ds
  cyclic_out h =
      let further : ℕ = h.1.0 in
      let end = chain_end further h.0 h.0 h.1.1 in
      let round : LeadsIn (next_of edges) further (number_of ds end.0) (number_of ds end.0) =
      subst (λ (k : ℕ). LeadsIn (next_of edges) further k k) (sym end.1) h.1.1 in
      let out = chain_out further end.0 (number_of ds end.0) round in
      let before : number_of ds end.0 < length ds = less (number_within ds end.0) (chain_start further (number_of ds end.0) (number_of ds end.0) round) in
      let same : end.0 ≡ out.0 = number_same ds end.0 out.0 (sym out.2) before in
      (end.0, further, subst (λ (b : List ℕ). ComposesIn ds further end.0 b) (sym same) out.1)
    where
      less : {a b : ℕ} → a ≤ b → (a ≡ b → ⊥) → a < b
      less h ne = omega arith
