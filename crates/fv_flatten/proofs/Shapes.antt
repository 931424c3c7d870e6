-- The tree that the constraints of a planned tree's preorder are read as.
use Rattle.std.proofs.Common.{◌≡◌, ℕ, ◌+◌, List, [], ◌∷◌, ◌++◌, length, map, refl, sym, ap, subst, ◌∙◌, arith}
use Rattle.std.specs.List.{AllZip}
use Rattle.fv_graph.specs.declared.flatten.Spot.{Spot}
use Rattle.fv_constraint_tree.specs.Codes.{tree_in-preorder}
use Rattle.fv_constraint_tree.specs.Nodes.{Node}
use Rattle.fv_constraint_tree.specs.Preorder.{preorder, preorders, tree_in}
use Rattle.fv_constraint_tree.specs.Trees.{Tree, tree, Trees, none, more, size, sizes}
use Rattle.fv_constraint.specs.Composed.{Planned}
use Rattle.fv_flatten.specs.Read.{IsEntry, IsReadTree, AreReadTrees}
use Rattle.fv_constraint.specs.PlannedViews.{planned_entry}
use Rattle.fv_constraint_tree.specs.Targets.{Target}
use Rattle.fv_constraint.specs.declared.planning.Planned as declared

-- a list that is zipped with two lists, one behind the other
pub record Parts {X Y : Type 0} (R : X → Y → Type 0) (xs later : List X) (ys : List Y) : Type 0 where
  pub front : List Y
  pub rest : List Y
  pub whole : front ++ rest ≡ ys
  pub first : AllZip R xs front
  pub second : AllZip R later rest

parts : {X Y : Type 0} (R : X → Y → Type 0) (xs later : List X) (ys : List Y) → AllZip R (xs ++ later) ys → Parts R xs later ys
parts R [] later ys z = record { front = []; rest = ys; whole = refl; first = tt; second = z }
parts R (x ∷ xs) later [] z = absurd z
parts R (x ∷ xs) later (y ∷ ys) z =
    let p = parts R xs later ys z.1 in
    record { front = y ∷ p.front; rest = p.rest; whole = ap (λ zs. y ∷ zs) p.whole; first = (z.0, p.first); second = p.second }

mutual
  -- trees of one shape have as many nodes
  same_size : (place : Target) (t : Tree Planned) (u : Tree Node) → IsReadTree place t u → size u ≡ size t
  same_size place (tree p ts) (tree n us) r = ap (λ k. 1 + k) (same_sizes place ts us r.1)

  same_sizes : (place : Target) (ts : Trees Planned) (us : Trees Node) → AreReadTrees place ts us → sizes us ≡ sizes ts
  same_sizes place none none r = refl
  same_sizes place none (more u us) r = absurd r
  same_sizes place (more t ts) none r = absurd r
  same_sizes place (more t ts) (more u us) r = ap (λ k. k + sizes us) (same_size place t u r.0) ∙ ap (λ k. size t + k) (same_sizes place ts us r.1)

-- the trees that a planned tree's entries are read as
pub record Shaped (place : Target) (ts : Trees Planned) (es : List (Node × ℕ)) : Type 0 where
  pub trees : Trees Node
  pub are : preorders trees ≡ es
  pub read : AreReadTrees place ts trees

-- the same of one tree
pub record ShapedAs (place : Target) (t : Tree Planned) (es : List (Node × ℕ)) : Type 0 where
  pub made : Tree Node
  pub is : preorder made ≡ es
  pub read : IsReadTree place t made

mutual
  pub shaped : (place : Target) (t : Tree Planned) (es : List (Node × ℕ)) → AllZip (IsEntry place) (preorder t) es → ShapedAs place t es
  shaped place (tree p ts) [] z = absurd z
  shaped place (tree p ts) (e ∷ es) z =
      let below = shaped_all place ts es z.1 in
      let many : sizes below.trees ≡ e.1 = same_sizes place ts below.trees below.read ∙ sym z.0.1 in
      record {
        made = tree e.0 below.trees;
        is = ap (λ k. (e.0, k) ∷ preorders below.trees) many ∙ ap (λ rest. e ∷ rest) below.are;
        read = (z.0.0, below.read);
      }

  shaped_all : (place : Target) (ts : Trees Planned) (es : List (Node × ℕ)) → AllZip (IsEntry place) (preorders ts) es → Shaped place ts es
  shaped_all place none [] z = record { trees = none; are = refl; read = tt }
  shaped_all place none (e ∷ es) z = absurd z
  shaped_all place (more t ts) es z =
      let p = parts (IsEntry place) (preorder t) (preorders ts) es z in
      let one = shaped place t p.front p.first in
      let others = shaped_all place ts p.rest p.second in
      record {
        trees = more one.made others.trees;
        are = ap (λ f. f ++ preorders others.trees) one.is ∙ ap (λ r. p.front ++ r) others.are ∙ p.whole;
        read = (one.read, others.read);
      }

again : {N : Type 0} (t : Tree N) (n : N) (b : ℕ) (es : List (N × ℕ)) → preorder t ≡ (n, b) ∷ es → tree_in n es ≡ t
again {N} (tree m ts) n b es is =
    let first : ◌≡◌ {A = N × ℕ} (m, sizes ts) (n, b) = cc in
    let head : m ≡ n = ap (λ (e : N × ℕ). e.0) first in
    let rest : preorders ts ≡ es = cc in
    rw (← rest, ← head) (tree_in-preorder (tree m ts))

-- a tree whose preorder a planned tree's entries are read as is the one that the planned tree is read as
pub read_tree : (place : Target) (t : Tree Planned) (u : Tree Node) (n : Node) (b : ℕ) (es : List (Node × ℕ)) → preorder u ≡ (n, b) ∷ es
    → AllZip (IsEntry place) (preorder t) ((n, b) ∷ es) → IsReadTree place t u
read_tree place t u n b es is z =
    let s = shaped place t ((n, b) ∷ es) z in
    let same : s.made ≡ u = sym (again s.made n b es s.is) ∙ again u n b es is in
    subst (λ v. IsReadTree place t v) same s.read

-- a tree's preorder is never empty
pub never_empty : (t : Tree Planned) (spots : List (Spot declared.Planned)) → preorder t ≡ map planned_entry spots → length spots ≡ 0 → ⊥
never_empty (tree p ts) [] is long = cc
never_empty (tree p ts) (s ∷ spots) is long = omega (arith, long)
