-- Membership, and lists without repeats.
use Rattle.std.proofs.Common.{◌≡◌, ◌≢◌, ◌≤◌, ℕ, suc, List, [], ◌∷◌, ◌++◌, length, reverse, ◌⊎◌, inl, inr, refl, sym, ◌∙◌, subst, Bool, true, false, ◌||◌, nat_eq, arith}
use Rattle.std.proofs.lemmas.List.{reverse-append, reverse-reverse}
use Rattle.fv_graph.specs.Graph.{mem, IsIn, AllDiffer}

pub in_left : {X : Type 0} (xs ys : List X) (x : X) → IsIn xs x → IsIn (xs ++ ys) x
in_left [] ys x h = absurd h
in_left (y ∷ xs) ys x (inl e) = inl e
in_left (y ∷ xs) ys x (inr h) = inr (in_left xs ys x h)

pub in_right : {X : Type 0} (xs ys : List X) (x : X) → IsIn ys x → IsIn (xs ++ ys) x
in_right [] ys x h = h
in_right (y ∷ xs) ys x h = inr (in_right xs ys x h)

pub in_cases : {X : Type 0} (xs ys : List X) (x : X) → IsIn (xs ++ ys) x → IsIn xs x ⊎ IsIn ys x
in_cases [] ys x h = inr h
in_cases (y ∷ xs) ys x (inl e) = inl (inl e)
in_cases (y ∷ xs) ys x (inr h) = elim (in_cases xs ys x h) [ inl k ↦ inl (inr k) | inr k ↦ inr k ]

pub AllDiffer-append : {X : Type 0} (xs ys : List X) → AllDiffer xs → AllDiffer ys → ((x : X) → IsIn xs x → IsIn ys x → ⊥) → AllDiffer (xs ++ ys)
AllDiffer-append [] ys d e apart = e
AllDiffer-append (x ∷ xs) ys d e apart = (
  λ h. elim (in_cases xs ys x h) [ inl k ↦ d.0 k | inr k ↦ apart x (inl refl) k ],
  AllDiffer-append xs ys d.1 e (λ z h k. apart z (inr h) k),
)

pub reverse-cons : {X : Type 0} (x : X) (xs : List X) → reverse (x ∷ xs) ≡ reverse xs ++ x ∷ []
reverse-cons x xs = reverse-append (x ∷ []) xs

pub in_reverse : {X : Type 0} (xs : List X) (x : X) → IsIn xs x → IsIn (reverse xs) x
in_reverse [] x h = absurd h
in_reverse {X} (y ∷ xs) x (inl e) =
    subst (λ (l : List X). IsIn l x) (sym (reverse-cons y xs)) (in_right (reverse xs) (y ∷ []) x (inl e))
in_reverse {X} (y ∷ xs) x (inr h) =
    subst (λ (l : List X). IsIn l x) (sym (reverse-cons y xs)) (in_left (reverse xs) (y ∷ []) x (in_reverse xs x h))

pub from_reverse : {X : Type 0} (xs : List X) (x : X) → IsIn (reverse xs) x → IsIn xs x
from_reverse {X} xs x h = subst (λ (l : List X). IsIn l x) (reverse-reverse xs) (in_reverse (reverse xs) x h)

pub AllDiffer-reverse : {X : Type 0} (xs : List X) → AllDiffer xs → AllDiffer (reverse xs)
AllDiffer-reverse [] d = tt
AllDiffer-reverse {X} (x ∷ xs) d =
    subst (λ (l : List X). AllDiffer l) (sym (reverse-cons x xs)) (AllDiffer-append (reverse xs) (x ∷ []) (AllDiffer-reverse xs d.1) ((λ h. h), tt) (λ z h k. elim k [
      | inl e ↦ d.0 (subst (λ (w : X). IsIn xs w) (sym e) (from_reverse xs z h))
      | inr n ↦ n
    ]))

pub eq_of : (a b : ℕ) → nat_eq a b ≡ true → a ≡ b
eq_of a b h = grind arith

pub eq_same : (a : ℕ) → nat_eq a a ≡ true
eq_same a = grind arith

pub ne_of : (a b : ℕ) → nat_eq a b ≡ false → a ≢ b
ne_of a b h e = (let r : nat_eq a b ≡ true = subst (λ (x : ℕ). nat_eq a x ≡ true) e (eq_same a) in cc)

pub or_true : (a b : Bool) → (a || b) ≡ true → (a ≡ true) ⊎ (b ≡ true)
or_true true b h = inl refl
or_true false b h = inr h

pub in_mem : (xs : List ℕ) (i : ℕ) → mem xs i ≡ true → IsIn xs i
in_mem [] i h = cc
in_mem (x ∷ xs) i h = elim (or_true (nat_eq x i) (mem xs i) h) [ inl e ↦ inl (eq_of x i e) | inr k ↦ inr (in_mem xs i k) ]

-- ---- how long a list without repeats is

-- a list without the first that is equal to one in it
without : {X : Type 0} (xs : List X) (x : X) → IsIn xs x → List X
without [] x h = []
without (y ∷ xs) x (inl e) = xs
without (y ∷ xs) x (inr h) = y ∷ without xs x h

-- it is shorter by one
length-without : {X : Type 0} (xs : List X) (x : X) (h : IsIn xs x) → length xs ≡ suc (length (without xs x h))
unfolding without
length-without [] x h = absurd h
length-without (y ∷ xs) x (inl e) = refl
length-without (y ∷ xs) x (inr h) = let e = length-without xs x h in omega (arith, e)

-- it has what else is in the list
in-without : {X : Type 0} (xs : List X) (x y : X) (h : IsIn xs x) → (x ≡ y → ⊥) → IsIn xs y → IsIn (without xs x h) y
unfolding without
in-without [] x y h d k = absurd h
in-without (z ∷ xs) x y (inl e) d (inl k) = absurd (d (sym e ∙ k))
in-without (z ∷ xs) x y (inl e) d (inr k) = k
in-without (z ∷ xs) x y (inr h) d (inl k) = inl k
in-without (z ∷ xs) x y (inr h) d (inr k) = inr (in-without xs x y h d k)

-- a list without repeats is no longer than one that has all that is in it
pub no_longer : {X : Type 0} (xs ys : List X) → AllDiffer xs → ((x : X) → IsIn xs x → IsIn ys x) → length xs ≤ length ys
no_longer [] ys d h = omega arith
no_longer {X} (x ∷ xs) ys d h =
    let k = h x (inl refl) in
    let e = length-without ys x k in
    let ih = no_longer xs (without ys x k) d.1 (λ y m. in-without ys x y k (λ q. d.0 (subst (λ (z : X). IsIn xs z) (sym q) m)) (h y (inr m))) in
    omega (arith, e, ih)
