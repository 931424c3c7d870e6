-- Trees of nodes: how constraints are composed of others.
use Rattle.std.specs.Prelude.{ℕ, ◌+◌}

mutual
  -- the node at the root, and the trees below it
  pub data Tree (N : Type 0) : Type 0 where
    tree : N → Trees N → Tree N

  -- trees, one after another
  pub data Trees (N : Type 0) : Type 0 where
    none : Trees N
    more : Tree N → Trees N → Trees N

-- the node at the root
abbrev pub root : {N : Type 0} → Tree N → N
root (tree n below) = n

-- the trees below the root
abbrev pub below : {N : Type 0} → Tree N → Trees N
below (tree n ts) = ts

abbrev mutual
  -- how many nodes a tree has
  pub size : {N : Type 0} → Tree N → ℕ
  size (tree n ts) = 1 + sizes ts

  -- how many nodes trees have
  pub sizes : {N : Type 0} → Trees N → ℕ
  sizes none = 0
  sizes (more t ts) = size t + sizes ts
