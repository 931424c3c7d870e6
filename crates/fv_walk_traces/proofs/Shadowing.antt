-- Shadowing by recursion, and its laws.
use Rattle.std.proofs.Common.{◌≡◌, ℕ, List, [], ◌∷◌, ◌++◌, ◌⊎◌, inl, inr, refl, sym, ap, ◌∙◌, subst, arith}
use Rattle.fv_walk_traces.specs.Turns.{Turn, Free, Rank, IsSmallerRank, Shadows, ShadowsByRecursion}

pub past_common : {A : Type 0} (common xs ys : List (Turn A)) → ShadowsByRecursion xs ys → ShadowsByRecursion (common ++ xs) (common ++ ys)
past_common [] xs ys h = h
past_common (x ∷ common) xs ys h = inr (refl, past_common common xs ys h)

pub by_recursion : {A : Type 0} (one other : List (Turn A)) → Shadows one other → ShadowsByRecursion one other
by_recursion {A} one other (common, i, j, rest, other_rest, less, e, d) =
    let h = past_common common (Rank i ∷ rest) (Rank j ∷ other_rest) (inl less) in
    subst (λ (s : List (Turn A)). ShadowsByRecursion s other) (sym e)
    (subst (λ (s : List (Turn A)). ShadowsByRecursion (common ++ (Rank i ∷ rest)) s) (sym d) h)

at_ranks : {A : Type 0} (x y : Turn A) (xs ys : List (Turn A)) → IsSmallerRank x y → Shadows (x ∷ xs) (y ∷ ys)
at_ranks (Rank i) (Rank j) xs ys h = ([], i, j, xs, ys, h, refl, refl)
at_ranks (Rank i) (Free b) xs ys h = absurd h
at_ranks (Free a) y xs ys h = absurd h

pub from_recursion : {A : Type 0} (one other : List (Turn A)) → ShadowsByRecursion one other → Shadows one other
from_recursion [] other h = absurd h
from_recursion (x ∷ xs) [] h = absurd h
from_recursion (x ∷ xs) (y ∷ ys) (inl less) = at_ranks x y xs ys less
from_recursion (x ∷ xs) (y ∷ ys) (inr h) =
    let k = from_recursion xs ys h.1 in
    (x ∷ k.0, k.1, k.2, k.3, k.4, k.5, ap (λ s. x ∷ s) k.6, cc (k.7, h.0))

smaller_trans : {A : Type 0} (x y z : Turn A) → IsSmallerRank x y → IsSmallerRank y z → IsSmallerRank x z
smaller_trans (Rank i) (Rank j) (Rank k) h g = omega arith
smaller_trans (Rank i) (Rank j) (Free c) h g = absurd g
smaller_trans (Rank i) (Free b) z h g = absurd h
smaller_trans (Free a) y z h g = absurd h

pub shadows_trans : {A : Type 0} (a b c : List (Turn A)) → ShadowsByRecursion a b → ShadowsByRecursion b c → ShadowsByRecursion a c
shadows_trans [] b c h g = absurd h
shadows_trans (x ∷ xs) [] c h g = absurd h
shadows_trans (x ∷ xs) (y ∷ ys) [] h g = absurd g
shadows_trans (x ∷ xs) (y ∷ ys) (z ∷ zs) (inl h) (inl g) = inl (smaller_trans x y z h g)
shadows_trans {A} (x ∷ xs) (y ∷ ys) (z ∷ zs) (inl h) (inr g) = inl (subst (λ (t : Turn A). IsSmallerRank x t) g.0 h)
shadows_trans {A} (x ∷ xs) (y ∷ ys) (z ∷ zs) (inr h) (inl g) = inl (subst (λ (t : Turn A). IsSmallerRank t z) (sym h.0) g)
shadows_trans (x ∷ xs) (y ∷ ys) (z ∷ zs) (inr h) (inr g) = inr (h.0 ∙ g.0, shadows_trans xs ys zs h.1 g.1)

-- what shadowing says of two lists whose first turns are known
pub peel : {A : Type 0} (one other : List (Turn A)) (x y : Turn A) (xs ys : List (Turn A)) → one ≡ x ∷ xs → other ≡ y ∷ ys → ShadowsByRecursion one other → IsSmallerRank x y ⊎ ((x ≡ y) × ShadowsByRecursion xs ys)
peel {A} one other x y xs ys e d h =
    subst (λ (s : List (Turn A)). ShadowsByRecursion (x ∷ xs) s) d (subst (λ (s : List (Turn A)). ShadowsByRecursion s other) e h)

pub wrap : {A : Type 0} (one other : List (Turn A)) (x y : Turn A) (xs ys : List (Turn A)) → one ≡ x ∷ xs → other ≡ y ∷ ys → IsSmallerRank x y ⊎ ((x ≡ y) × ShadowsByRecursion xs ys) → ShadowsByRecursion one other
wrap {A} one other x y xs ys e d h =
    subst (λ (s : List (Turn A)). ShadowsByRecursion s other) (sym e) (subst (λ (s : List (Turn A)). ShadowsByRecursion (x ∷ xs) s) (sym d) h)

pub free_injective : {A : Type 0} (a b : A) → Free a ≡ Free b → a ≡ b
free_injective a b e = cc

pub rank_injective : {A : Type 0} (i j : ℕ) → ◌≡◌ {A = Turn A} (Rank i) (Rank j) → i ≡ j
rank_injective i j e = cc
