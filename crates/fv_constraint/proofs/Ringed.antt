-- A ring of the graph of definitions is one of the definitions.
use Rattle.std.proofs.Common.{◌≡◌, ℕ, zero, suc, List, [], ◌∷◌, map, Vec, Option, Some, None, MatchOption, Result, Ok, Err, IfOk, slice_index_or, refl, ap, ◌∙◌}
use Rattle.std.specs.declared.alloc.AllocError.{AllocError}
use Rattle.std.specs.declared.alloc.Global.{Global}
use Rattle.fv_constraint.proofs.Cycles.{cyclic_in, cyclic_out}
use Rattle.fv_constraint.specs.Composed.{ComposesItself}
use Rattle.fv_constraint.specs.Numbered.{edges_of}
use Rattle.fv_constraint.specs.Whereabouts.{composed_numbers, IsCompositionRing}
use Rattle.fv_declare_definition.specs.Definitions.{Definitions}
use Rattle.fv_graph.specs.Graph.{next_of}
use Rattle.fv_ring.specs.Rings.{FindsRing}

next_listed : (edges : List (Vec ℕ Global)) (n : ℕ) → next_of edges n ≡ slice_index_or (map (λ nodes. nodes.items) edges) n []
next_listed [] n = refl
next_listed (v ∷ edges) zero = refl
next_listed (v ∷ edges) (suc n) = next_listed edges n

pub next_composed : (ds : Definitions) (edges : List (Vec ℕ Global)) → map (λ nodes. nodes.items) edges ≡ edges_of ds → (n : ℕ) → next_of edges n ≡ composed_numbers ds n
next_composed ds edges are n = next_listed edges n ∙ ap (λ rows. slice_index_or rows n []) are

pub ring_told : (ds : Definitions) (edges : List (Vec ℕ Global)) → map (λ nodes. nodes.items) edges ≡ edges_of ds → (found : Result (Option (Vec ℕ Global)) AllocError)
    → IfOk found (FindsRing (next_of edges)) → IfOk found (FindsRing (composed_numbers ds)) → IfOk found (λ o. MatchOption o (ComposesItself ds → ⊥) (λ v. ComposesItself ds × IsCompositionRing ds v.items))
ring_told ds edges are (Err e) cyclic ring = tt
ring_told ds edges are (Ok None) cyclic ring = λ cycle. cyclic (cyclic_in ds edges are cycle)
ring_told ds edges are (Ok (Some v)) cyclic ring = (cyclic_out ds edges are cyclic.0, ring.1)
