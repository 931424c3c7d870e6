-- The place of the first element that passes a test.
use Rattle.std.proofs.Common.{◌≡◌, ◌+◌, ℕ, suc, List, ◌∷◌, length, Bool, true, false, cond, not, nat_lt, Some, None, option_map, position, refl, ap, ◌∙◌, arith}
use Rattle.std.specs.List.{position_or_len}
use Rattle.std.proofs.lemmas.Bool.Decides.{nat_tests}

one_more : (k : ℕ) → 1 + k ≡ suc k
one_more k = omega arith

first_of : (n : ℕ) → nat_lt 0 (suc n) ≡ true
first_of n = grind (arith, nat_tests)

both_more : (k n : ℕ) → nat_lt (suc k) (suc n) ≡ nat_lt k n
both_more k n = grind (arith, nat_tests)

-- the place of the first that passes, one place further on
pub position_cons : {X : Type 0} (p : X → Bool) (x : X) (xs : List X) → position p (x ∷ xs) ≡ cond (p x) (Some 0) (option_map suc (position p xs))
position_cons p x xs = go (p x) (position_or_len p xs)
  where
    later : (k : ℕ) (b : Bool) → cond b (Some (suc k)) None ≡ option_map suc (cond b (Some k) None)
    later k true = refl
    later k false = refl

    go : (b : Bool) (k : ℕ) → (cond (nat_lt (cond (not b) (1 + k) 0) (suc (length xs))) (Some (cond (not b) (1 + k) 0)) None) ≡ cond b (Some 0) (option_map suc (cond (nat_lt k (length xs)) (Some k) None))
    go true k = ap (λ (b : Bool). cond b (Some 0) None) (first_of (length xs))
    go false k = ap (λ (m : ℕ). cond (nat_lt m (suc (length xs))) (Some m) None) (one_more k)
        ∙ ap (λ (b : Bool). cond b (Some (suc k)) None) (both_more k (length xs)) ∙ later k (nat_lt k (length xs))
