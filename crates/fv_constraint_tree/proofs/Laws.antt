-- What follows from a report's definition.
use Rattle.std.proofs.Common.{◌≡◌, ℕ, ◌+◌, ◌∙◌, List, [], ◌∷◌, ◌++◌, Bool, true, false, ◌||◌, map, refl, sym, ap, ◌↔◌}
use Rattle.fv_constraint_tree.specs.Reports.{is_bad, any_bad, reported, reported_all, reported_if}
use Rattle.fv_constraint_tree.specs.Trees.{Tree, tree, Trees, none, more, size}

-- a list has an element
abbrev pub some : {A : Type 0} → List A → Bool
some [] = false
some (x ∷ xs) = true

some_append : {A : Type 0} (xs ys : List A) → some (xs ++ ys) ≡ (some xs || some ys)
some_append [] ys = refl
some_append (x ∷ xs) ys = refl

some_if : {N : Type 0} (stands : Bool) (k : ℕ) (n : N) → some (reported_if stands k n) ≡ stands
some_if true k n = refl
some_if false k n = refl

mutual
  -- a tree reports something where it is bad
  pub some_reported : {N : Type 0} (single refuses : N → Bool) (k : ℕ) (t : Tree N) → some (reported single refuses k t) ≡ is_bad refuses t
  some_reported single refuses k (tree n below) = at_root (single n) refl (some_reported_all single refuses (k + 1) below)
    where
      at_root : (s : Bool) → single n ≡ s → some (reported_all single refuses (k + 1) below) ≡ any_bad refuses below
          → some (reported single refuses k (tree n below)) ≡ (refuses n || any_bad refuses below)
      at_root true one kids = rw (one, some_if) refl
      at_root false other kids = rw (other, some_append, some_if, kids) refl

  pub some_reported_all : {N : Type 0} (single refuses : N → Bool) (k : ℕ) (ts : Trees N) → some (reported_all single refuses k ts) ≡ any_bad refuses ts
  some_reported_all single refuses k none = refl
  some_reported_all single refuses k (more t ts) = rw (some_append, some_reported single refuses k t, some_reported_all single refuses (k + size t) ts) refl

some_map : {A B : Type 0} (f : A → B) (xs : List A) → some (map f xs) ≡ some xs
some_map f [] = refl
some_map f (x ∷ xs) = refl

none_of : {A : Type 0} (xs : List A) → some xs ≡ false → xs ≡ []
none_of [] is = refl
none_of (x ∷ xs) is = absurd (cc)

-- nothing is reported exactly where the tree isn't bad
pub empty_is : {N : Type 0} (single refuses : N → Bool) (k : ℕ) (t : Tree N) (xs : List ℕ) → xs ≡ map (λ r. r.0) (reported single refuses k t) → (xs ≡ []) ↔ (is_bad refuses t ≡ false)
empty_is single refuses k t xs is =
    let bad : some xs ≡ is_bad refuses t = ap some is ∙ some_map (λ r. r.0) (reported single refuses k t) ∙ some_reported single refuses k t in
    (λ empty. sym bad ∙ ap some empty, λ good. none_of xs (bad ∙ good))
