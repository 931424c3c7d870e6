-- What is found first is there exactly where some element has it.
use Rattle.std.proofs.Common.{inl, inr, ℕ, suc, List, [], ◌∷◌, Option, Some, None}
use Rattle.fv_first.specs.First.{IsFirstFrom}
use Rattle.fv_declare_groups.specs.First.{HasSome}

pub first_some : {X P : Type 0} (F : ℕ → X → Option P → Type 0) (Has : X → Type 0) → ((n : ℕ) (x : X) (p : P) → F n x (Some p) → Has x) → (n : ℕ) (xs : List X) (p : P) → IsFirstFrom F n xs (Some p) → HasSome Has xs
first_some F Has each n [] p found = cc
first_some F Has each n (x ∷ xs) p (inl here) = inl (each n x here.0 here.2)
first_some F Has each n (x ∷ xs) p (inr later) = inr (first_some F Has each (suc n) xs p later.1)

pub first_none : {X P : Type 0} (F : ℕ → X → Option P → Type 0) (Has : X → Type 0) → ((n : ℕ) (x : X) → F n x None → Has x → ⊥) → (n : ℕ) (xs : List X) → IsFirstFrom F n xs None → HasSome Has xs → ⊥
first_none F Has each n [] found some = some
first_none F Has each n (x ∷ xs) (inl here) some = cc
first_none F Has each n (x ∷ xs) (inr later) (inl is) = each n x later.0 is
first_none F Has each n (x ∷ xs) (inr later) (inr more) = first_none F Has each (suc n) xs later.1 more
