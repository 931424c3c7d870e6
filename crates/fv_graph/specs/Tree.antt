-- The trees that the nodes of a graph without cycles unfold to, with a value handed down each edge.
use Rattle.std.specs.Prelude.{ℕ, ◌+◌, List, [], ◌∷◌, ◌++◌, length}
use Rattle.fv_graph.specs.Recursion.{value}
use Rattle.fv_graph.specs.declared.flatten.Spot.{Spot}

mutual
  -- a node with its value, above trees in order
  pub data Tree (V : Type 0) : Type 0 where
    tree : ℕ → V → Trees V → Tree V

  -- trees in order
  pub data Trees (V : Type 0) : Type 0 where
    no_tree : Trees V
    tree_and : Tree V → Trees V → Trees V

-- what a node's edge, told by its place among the node's edges, hands on of the node's value
abbrev pub Hands : Type 0 → Type 0
Hands V = ℕ → ℕ → V → V

-- the trees that a node's edges lead to, from one of its edges on, each with what its edge hands on
abbrev pub handed : {V : Type 0} → (ℕ → V → V) → V → ℕ → List (V → Tree V) → Trees V
handed hands value edge [] = no_tree
handed hands value edge (grows ∷ more) = tree_and (grows (hands edge value)) (handed hands value (edge + 1) more)

-- a node with the value that comes down to it, above the trees that its edges lead to
abbrev pub grown : {V : Type 0} → Hands V → ℕ → List (V → Tree V) → V → Tree V
grown hands node below value = tree node value (handed (hands node) value 0 below)

-- the tree that a node unfolds to, by the value that comes down to it
abbrev pub tree_of : {V : Type 0} → Hands V → (ℕ → List ℕ) → ℕ → ℕ → V → Tree V
tree_of hands next count node = value (grown hands) next count node

-- a tree in preorder: its topmost node with how many stand below it, and then those
abbrev mutual
  pub listed : {V : Type 0} → Tree V → List (Spot V)
  listed (tree node value below) =
      record { node = node; value = value; below = length (all_listed below) } ∷ all_listed below

  pub all_listed : {V : Type 0} → Trees V → List (Spot V)
  all_listed no_tree = []
  all_listed (tree_and first more) = listed first ++ all_listed more

-- a spot with its value as it is seen
abbrev pub shown : {X V : Type 0} → (X → V) → Spot X → Spot V
shown seen spot = record { node = spot.node; value = seen spot.value; below = spot.below }
