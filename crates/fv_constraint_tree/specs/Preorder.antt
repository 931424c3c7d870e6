-- Trees as flat lists: their nodes in preorder, each with the number of the nodes below it.
use Rattle.std.specs.Prelude.{◌≡◌, ℕ, zero, suc, List, [], ◌∷◌, ◌++◌, length, take, drop, map}
use Rattle.fv_constraint_tree.specs.Trees.{Tree, tree, Trees, none, more, sizes}

abbrev mutual
  -- a tree's nodes in preorder, each with the number of the nodes below it
  pub preorder : {N : Type 0} → Tree N → List (N × ℕ)
  preorder (tree n below) = (n, sizes below) ∷ preorders below

  -- the same of trees, one after another
  pub preorders : {N : Type 0} → Trees N → List (N × ℕ)
  preorders none = []
  preorders (more t ts) = preorder t ++ preorders ts

-- a tree's nodes in preorder
abbrev pub nodes : {N : Type 0} → Tree N → List N
nodes t = map (λ e. e.0) (preorder t)

-- a list is some tree's preorder
abbrev pub IsPreorder : {N : Type 0} → List (N × ℕ) → Type 0
IsPreorder {N} es = (t : Tree N) × (preorder t ≡ es)

-- the way back: the trees of a list, in as many steps as the list is long at most
abbrev pub trees_in : {N : Type 0} → ℕ → List (N × ℕ) → Trees N
trees_in zero es = none
trees_in (suc steps) [] = none
trees_in (suc steps) (e ∷ es) = more (tree e.0 (trees_in steps (take e.1 es))) (trees_in steps (drop e.1 es))

-- the tree of a root and of the list of the nodes below it
abbrev pub tree_in : {N : Type 0} → N → List (N × ℕ) → Tree N
tree_in n below = tree n (trees_in (length below) below)
