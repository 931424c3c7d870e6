-- Rings of a graph.
use Rattle.std.specs.Prelude.{◌≡◌, ◌<◌, ℕ, List, [], ◌∷◌, ◌++◌, Bool, true, false, length, slice_index_or, if◌then◌else◌, Option, Vec, MatchOption}
use Rattle.std.specs.declared.alloc.Global.{Global}
use Rattle.fv_graph.specs.Graph.{IsIn, IsCyclic}

-- an edge leads from each node to the one behind it
abbrev pub IsLinked : (ℕ → List ℕ) → List ℕ → Type 0
IsLinked next [] = Unit {0}
IsLinked next (i ∷ []) = Unit {0}
IsLinked next (i ∷ j ∷ js) = IsIn (next i) j × IsLinked next (j ∷ js)

-- nodes of which each leads to the next, and the last to the first
abbrev pub IsRing : (ℕ → List ℕ) → List ℕ → Type 0
IsRing next [] = ⊥
IsRing next (i ∷ is) = IsLinked next (i ∷ is ++ i ∷ [])

-- some ring where some node leads to itself, and none where none does
abbrev pub FindsRing : (ℕ → List ℕ) → Option (Vec ℕ Global) → Type 0
FindsRing next found = MatchOption found (IsCyclic next → ⊥) (λ r. IsCyclic next × IsRing next r.items)

-- for private clauses: a node is flagged
abbrev pub IsFlagged : List Bool → ℕ → Type 0
IsFlagged flags i = slice_index_or flags i false ≡ true

-- each flagged node leads to a flagged one
abbrev pub LeadOn : (ℕ → List ℕ) → List Bool → Type 0
LeadOn next flags = (i : ℕ) → IsFlagged flags i → (j : ℕ) × IsIn (next i) j × IsFlagged flags j

-- those of so many nodes that aren't among these are flagged, and no others
abbrev pub AreFlagged : ℕ → List ℕ → List Bool → Type 0
AreFlagged count nodes flags =
    (length flags ≡ count) × ((i : ℕ) → IsFlagged flags i → IsIn nodes i → ⊥) × ((i : ℕ) → i < count → (IsIn nodes i → ⊥) → IsFlagged flags i)

-- how many aren't flagged
abbrev pub unseen : Bool → ℕ
unseen b = if b then 0 else 1
