-- How the logic stores a tree: as its root and the list of the nodes below it, of which the tree is made again.
use Rattle.std.proofs.Common.{◌≡◌, ℕ, zero, suc, ◌≤◌, List, ◌++◌, length, take, drop, refl, sym, ap, ◌∙◌, arith, length-append}
use Rattle.std.proofs.Math.Seq.{take-append_seam, drop-append_seam}
use Rattle.std.specs.Coded.{Coded, code_by, coded_ℕ, coded_list, coded×}
use Rattle.fv_constraint_tree.specs.Preorder.{preorder, preorders, trees_in, tree_in}
use Rattle.fv_constraint_tree.specs.Trees.{Tree, tree, Trees, none, more, root, below, size, sizes}

mutual
  -- a tree's preorder is as long as the tree has nodes
  pub length-preorder : {N : Type 0} (t : Tree N) → length (preorder t) ≡ size t
  length-preorder (tree n below) = let kids = length-preorders below in omega arith

  pub length-preorders : {N : Type 0} (ts : Trees N) → length (preorders ts) ≡ sizes ts
  length-preorders none = refl
  length-preorders (more t ts) = let first = length-preorder t in let others = length-preorders ts in omega (arith, length-append (preorder t) (preorders ts))

-- the front of a list that trees begin
pub take-preorders : {N : Type 0} (ts : Trees N) (es : List (N × ℕ)) → take (sizes ts) (preorders ts ++ es) ≡ preorders ts
take-preorders ts es = ap (λ (k : ℕ). take k (preorders ts ++ es)) (sym (length-preorders ts)) ∙ take-append_seam (preorders ts) es

-- what is left of it
pub drop-preorders : {N : Type 0} (ts : Trees N) (es : List (N × ℕ)) → drop (sizes ts) (preorders ts ++ es) ≡ es
drop-preorders ts es = ap (λ (k : ℕ). drop k (preorders ts ++ es)) (sym (length-preorders ts)) ∙ drop-append_seam (preorders ts) es

-- the trees of their preorder are these trees
pub trees_in-preorders : {N : Type 0} (steps : ℕ) (ts : Trees N) → sizes ts ≤ steps → trees_in steps (preorders ts) ≡ ts
trees_in-preorders zero none few = refl
trees_in-preorders zero (more (tree n below) ts) few = absurd (omega arith)
trees_in-preorders (suc steps) none few = refl
trees_in-preorders (suc steps) (more (tree n below) ts) few =
    let kids = ap (trees_in steps) (take-preorders below (preorders ts)) ∙ trees_in-preorders steps below (omega arith) in
    let others = ap (trees_in steps) (drop-preorders below (preorders ts)) ∙ trees_in-preorders steps ts (omega arith) in
    rw (kids, others) refl

-- the tree of its preorder is this tree
pub tree_in-preorder : {N : Type 0} (t : Tree N) → tree_in (root t) (preorders (below t)) ≡ t
tree_in-preorder (tree n below) = ap (tree n) (trees_in-preorders (length (preorders below)) below (omega (arith, length-preorders below)))

-- how the logic stores a tree, by how it stores a node
abbrev pub tree_code : {N : Type 0} → Coded N → Coded (Tree N)
tree_code {N} c =
    code_by (N × List (N × ℕ)) (coded× c (coded_list (coded× c coded_ℕ))) (λ t. (root t, preorders (below t))) (λ p. tree_in p.0 p.1) tree_in-preorder
