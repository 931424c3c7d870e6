-- Whether all nodes of a tree pass a test, seen from one of them on.
use Rattle.std.proofs.Common.{◌≡◌, ℕ, zero, suc, ◌+◌, ◌<◌, ◌≤◌, ◌&&◌, List, [], ◌∷◌, length, map, drop, Bool, true, false, Some, None, slice_get, sym, ap, ◌∙◌, add-one, arith}
use Rattle.std.proofs.lemmas.List.{at_drop_all, length-map}
use Rattle.std.specs.List.{list_all}
use Rattle.fv_constraint_tree.specs.Codes.{length-preorder}
use Rattle.fv_constraint_tree.specs.Nodes.{Node}
use Rattle.fv_constraint_tree.specs.Preorder.{preorder, nodes}
use Rattle.fv_constraint_tree.specs.Trees.{Tree, size}

there : {X : Type 0} (xs : List X) (i : ℕ) → i < length xs → slice_get xs i ≡ None → ⊥
there [] i within e = absurd (omega arith)
there (x ∷ xs) zero within e = cc
there (x ∷ xs) (suc i) within e = there xs i (omega arith) e

-- each number below the size is a node's
pub node_there : (t : Tree Node) (i : ℕ) → i < size t → slice_get (preorder t) i ≡ None → ⊥
node_there t i within e = there (preorder t) i (omega (arith, length-preorder t)) e

drop_at : {X Y : Type 0} (f : X → Y) (xs : List X) (i : ℕ) (x : X) → slice_get xs i ≡ Some x → drop i (map f xs) ≡ f x ∷ drop (suc i) (map f xs)
drop_at f [] i x e = cc
drop_at f (y ∷ ys) zero x e = let same : y ≡ x = cc in ap (λ z. f z ∷ map f ys) same
drop_at f (y ∷ ys) (suc i) x e = drop_at f ys i x e

module _ (p : Node → Bool) (t : Tree Node) where
  module _ (i : ℕ) (e : Node × ℕ) (at : slice_get (preorder t) i ≡ Some e) where
    turn : list_all p (drop i (nodes t)) ≡ (p e.0 && list_all p (drop (i + 1) (nodes t)))
    turn = rw add-one (ap (list_all p) (drop_at (λ (n : Node × ℕ). n.0) (preorder t) i e at))

    pub refused : false ≡ p e.0 → list_all p (drop i (nodes t)) ≡ list_all p (nodes t) → false ≡ list_all p (nodes t)
    refused fails so_far = sym (turn ∙ ap (λ b. b && list_all p (drop (i + 1) (nodes t))) (sym fails)) ∙ so_far

    pub passed : true ≡ p e.0 → list_all p (drop i (nodes t)) ≡ list_all p (nodes t) → list_all p (drop (i + 1) (nodes t)) ≡ list_all p (nodes t)
    passed holds so_far = sym (turn ∙ ap (λ b. b && list_all p (drop (i + 1) (nodes t))) (sym holds)) ∙ so_far

  pub all_passed : (i : ℕ) → size t ≤ i → list_all p (drop i (nodes t)) ≡ list_all p (nodes t) → true ≡ list_all p (nodes t)
  all_passed i past so_far = sym (at_drop_all (list_all p) (nodes t) i (omega (arith, length-map (preorder t) (λ (n : Node × ℕ). n.0), length-preorder t))) ∙ so_far
