-- What a composed constraint reports.
use Rattle.std.specs.Prelude.{ℕ, ◌+◌, ℤ, ◌||◌, List, [], ◌∷◌, ◌++◌, Bool, false, if◌then◌else◌}
use Rattle.fv_registry.specs.Meanings.{Meanings}
use Rattle.fv_constraint_tree.specs.Nodes.{Node}
use Rattle.fv_constraint_tree.specs.Says.{Subject, refuses}
use Rattle.fv_constraint_tree.specs.Trees.{Tree, tree, Trees, none, more, size}

abbrev mutual
  -- a tree is bad: the constraint at its root refuses, or a tree below is bad
  pub is_bad : {N : Type 0} → (N → Bool) → Tree N → Bool
  is_bad refuses (tree n below) = refuses n || any_bad refuses below

  -- one of the trees is bad
  pub any_bad : {N : Type 0} → (N → Bool) → Trees N → Bool
  any_bad refuses none = false
  any_bad refuses (more t ts) = is_bad refuses t || any_bad refuses ts

-- a node with its number, where it stands in a report
abbrev pub reported_if : {N : Type 0} → Bool → ℕ → N → List (ℕ × N)
reported_if stands k n = if stands then (k, n) ∷ [] else []

abbrev mutual
  -- the nodes that a tree reports, each with its number in preorder, where its root has number k: a node that reports as one stands alone
  -- where the tree from it on is bad; another stands where its own constraint refuses, before the reports of the trees below it
  pub reported : {N : Type 0} → (N → Bool) → (N → Bool) → ℕ → Tree N → List (ℕ × N)
  reported single refuses k (tree n below) =
      if single n then reported_if (refuses n || any_bad refuses below) k n else reported_if (refuses n) k n ++ reported_all single refuses (k + 1) below

  -- the same of trees, one after another, where the root of the first has number k
  pub reported_all : {N : Type 0} → (N → Bool) → (N → Bool) → ℕ → Trees N → List (ℕ × N)
  reported_all single refuses k none = []
  reported_all single refuses k (more t ts) = reported single refuses k t ++ reported_all single refuses (k + size t) ts

-- the constraints of a tree that are violated by a subject at a moment, as the tree reports them
abbrev pub violated : Meanings → ℤ → Subject → ℕ → Tree Node → List (ℕ × Node)
violated m now subject k t = reported (λ n. n.single) (refuses m now subject) k t
