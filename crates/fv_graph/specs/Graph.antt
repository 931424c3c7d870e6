-- Directed graphs over numbered nodes, as a function from a node to the list of those that its edges lead to.
use Rattle.std.specs.Prelude.{◌≡◌, ◌<◌, ◌↔◌, ◌||◌, ℕ, zero, suc, nat_eq, Bool, false, List, [], ◌∷◌, ◌++◌, All, length, Option, Some, None, MatchOption, slice_get, Vec}
use Rattle.std.specs.declared.alloc.Global.{Global}
use mathlib.Core.Logic.{◌⊎◌}

-- x is one of xs
abbrev pub IsIn : {X : Type 0} → List X → X → Type 0
IsIn [] x = ⊥
IsIn (y ∷ ys) x = (y ≡ x) ⊎ IsIn ys x

-- the same of numbers, as a test
abbrev pub mem : List ℕ → ℕ → Bool
mem [] i = false
mem (x ∷ xs) i = nat_eq x i || mem xs i

-- none of xs comes again later
abbrev pub AllDiffer : {X : Type 0} → List X → Type 0
AllDiffer [] = Unit {0}
AllDiffer (x ∷ xs) = (IsIn xs x → ⊥) × AllDiffer xs

-- a chain of so many edges after the first
abbrev pub LeadsIn : (ℕ → List ℕ) → ℕ → ℕ → ℕ → Type 0
LeadsIn next zero i j = IsIn (next i) j
LeadsIn next (suc more) i j = (k : ℕ) × IsIn (next i) k × LeadsIn next more k j

-- i leads to j by a chain of one edge or more
abbrev pub Leads : (ℕ → List ℕ) → ℕ → ℕ → Type 0
Leads next i j = (more : ℕ) × LeadsIn next more i j

-- some node leads to itself
abbrev pub IsCyclic : (ℕ → List ℕ) → Type 0
IsCyclic next = (i : ℕ) × Leads next i i

-- the node leads to itself, or to a node that does
abbrev pub MeetsCycle : (ℕ → List ℕ) → ℕ → Type 0
MeetsCycle next i = (j : ℕ) × ((i ≡ j) ⊎ Leads next i j) × Leads next j j

-- wherever a node stands in the order, all that its edges lead to stand before it
abbrev pub ComesAfter : (ℕ → List ℕ) → List ℕ → Type 0
ComesAfter next order =
    (before : List ℕ) (i : ℕ) (after : List ℕ) → order ≡ before ++ i ∷ after → (j : ℕ) → IsIn (next i) j → IsIn before j

-- each of the nodes once, after all that its edges lead to
abbrev pub IsOrder : (ℕ → List ℕ) → ℕ → List ℕ → Type 0
IsOrder next count order = AllDiffer order × ((i : ℕ) → IsIn order i ↔ i < count) × ComesAfter next order

-- nodes that meet no cycle, each after all that its edges lead to
abbrev pub IsPartOrder : (ℕ → List ℕ) → ℕ → List ℕ → Type 0
IsPartOrder next count order =
    ((i : ℕ) → IsIn order i → (i < count) × (MeetsCycle next i → ⊥)) × ComesAfter next order

-- all nodes that meet no cycle, each once, after all that its edges lead to
pub record IsRestOrder (next : ℕ → List ℕ) (count : ℕ) (order : List ℕ) : Type 0 where
  pub once : AllDiffer order
  pub part : IsPartOrder next count order
  pub others : (i : ℕ) → i < count → IsIn order i ⊎ MeetsCycle next i

-- edges lead to nodes below this number alone
abbrev pub IsBelow : (ℕ → List ℕ) → ℕ → Type 0
IsBelow next count = (i j : ℕ) → IsIn (next i) j → (i < count) × (j < count)

-- the nodes of a list, if there is one
abbrev pub items_in : Option (Vec ℕ Global) → List ℕ
items_in None = []
items_in (Some nodes) = nodes.items

-- the graph of a list of successor lists
abbrev pub next_of : List (Vec ℕ Global) → ℕ → List ℕ
next_of edges i = items_in (slice_get edges i)

-- every edge leads to a node of the list
abbrev pub AreWithin : List (Vec ℕ Global) → Type 0
AreWithin edges = All (λ nodes. All (λ j. j < length edges) nodes.items) edges

-- no order where there is a cycle, and an order where there is none
abbrev pub Orders : (ℕ → List ℕ) → ℕ → Option (Vec ℕ Global) → Type 0
Orders next count found = MatchOption found (IsCyclic next) (λ order. (IsCyclic next → ⊥) × IsOrder next count order.items)
