-- What is in a list: in one without repeats, in lists that are joined, and in what a test leaves.
use Rattle.std.proofs.Common.{◌≡◌, ℕ, List, [], ◌∷◌, map, filter, ◌⊎◌, ◌↔◌, inl, inr, refl, sym, subst, Bool, true, false, cond, ◌||◌, nat_eq}
use Rattle.std.specs.List.{concat, list_any}
use Rattle.fv_graph.specs.Graph.{mem, IsIn, AllDiffer}
use Rattle.fv_graph.proofs.Lists.{in_left, in_right, eq_of, eq_same, or_true}
use Rattle.fv_declare_schema.specs.Once.{once_after, once}

-- ---- the test

pub in_mem : (xs : List ℕ) (i : ℕ) → mem xs i ≡ true → IsIn xs i
in_mem [] i h = cc
in_mem (x ∷ xs) i h = elim (or_true (nat_eq x i) (mem xs i) h) [ inl e ↦ inl (eq_of x i e) | inr k ↦ inr (in_mem xs i k) ]

-- two tests that pass alike
pub same_test : (a b : Bool) → (a ≡ true → b ≡ true) → (b ≡ true → a ≡ true) → a ≡ b
same_test true b to from = sym (to refl)
same_test false true to from = from refl
same_test false false to from = refl

or_left : (a b : Bool) → a ≡ true → (a || b) ≡ true
or_left true b h = refl
or_left false b h = cc

or_right : (a b : Bool) → b ≡ true → (a || b) ≡ true
or_right true b h = refl
or_right false b h = h

pub mem_in : (xs : List ℕ) (i : ℕ) → IsIn xs i → mem xs i ≡ true
mem_in [] i h = absurd h
mem_in (x ∷ xs) i (inl e) = or_left (nat_eq x i) (mem xs i) (subst (λ (w : ℕ). nat_eq x w ≡ true) e (eq_same x))
mem_in (x ∷ xs) i (inr h) = or_right (nat_eq x i) (mem xs i) (mem_in xs i h)

-- ---- each once

-- what is left of a list, but for what stood before it
from_once : (done xs : List ℕ) (j : ℕ) → IsIn (once_after done xs) j → IsIn xs j × (mem done j ≡ false)
from_once done [] j h = absurd h
from_once done (x ∷ xs) j h = go (mem done x) refl (from_once done xs j) (from_once (x ∷ done) xs j) h
  where
    nor : (a b : Bool) → (a || b) ≡ false → b ≡ false
    nor true b e = cc
    nor false b e = e

    go : (b : Bool) → mem done x ≡ b → (IsIn (once_after done xs) j → IsIn xs j × (mem done j ≡ false)) → (IsIn (once_after (x ∷ done) xs) j → IsIn xs j × (mem (x ∷ done) j ≡ false))
        → IsIn (cond b (once_after done xs) (x ∷ once_after (x ∷ done) xs)) j → ((x ≡ j) ⊎ IsIn xs j) × (mem done j ≡ false)
    go true e old new k = (inr (old k).0, (old k).1)
    go false e old new (inl q) = (inl q, subst (λ (w : ℕ). mem done w ≡ false) q e)
    go false e old new (inr k) = (inr (new k).0, nor (nat_eq x j) (mem done j) (new k).1)

into_once : (done xs : List ℕ) (j : ℕ) → IsIn xs j → IsIn (once_after done xs) j ⊎ IsIn done j
into_once done [] j h = absurd h
into_once done (x ∷ xs) j h = go (mem done x) refl (into_once done xs j) (into_once (x ∷ done) xs j) h
  where
    go : (b : Bool) → mem done x ≡ b → (IsIn xs j → IsIn (once_after done xs) j ⊎ IsIn done j) → (IsIn xs j → IsIn (once_after (x ∷ done) xs) j ⊎ IsIn (x ∷ done) j)
        → (x ≡ j) ⊎ IsIn xs j → IsIn (cond b (once_after done xs) (x ∷ once_after (x ∷ done) xs)) j ⊎ IsIn done j
    go true e old new (inl q) = inr (subst (λ (w : ℕ). IsIn done w) q (in_mem done x e))
    go true e old new (inr k) = old k
    go false e old new (inl q) = inl (inl q)
    go false e old new (inr k) = elim (new k) [ inl a ↦ inl (inr a) | inr (inl q) ↦ inl (inl q) | inr (inr c) ↦ inr c ]

pub in_once : (xs : List ℕ) (j : ℕ) → IsIn (once xs) j ↔ IsIn xs j
in_once xs j = (λ h. (from_once [] xs j h).0, λ h. elim (into_once [] xs j h) [ inl a ↦ a | inr n ↦ absurd n ])

not_again : (done : List ℕ) (x : ℕ) → mem (x ∷ done) x ≡ false → ⊥
not_again done x e = let t : mem (x ∷ done) x ≡ true = or_left (nat_eq x x) (mem done x) (eq_same x) in cc

differ_after : (done xs : List ℕ) → AllDiffer (once_after done xs)
differ_after done [] = tt
differ_after done (x ∷ xs) = go (mem done x) (differ_after done xs) (differ_after (x ∷ done) xs)
  where
    go : (b : Bool) → AllDiffer (once_after done xs) → AllDiffer (once_after (x ∷ done) xs) → AllDiffer (cond b (once_after done xs) (x ∷ once_after (x ∷ done) xs))
    go true old new = old
    go false old new = (λ h. not_again done x (from_once (x ∷ done) xs x h).1, new)

pub once_differs : (xs : List ℕ) → AllDiffer (once xs)
once_differs xs = differ_after [] xs

-- ---- lists that are joined

pub in_concat : (f : ℕ → List ℕ) (xs : List ℕ) (k j : ℕ) → IsIn xs k → IsIn (f k) j → IsIn (concat (map f xs)) j
in_concat f [] k j h m = absurd h
in_concat f (x ∷ xs) k j (inl e) m = in_left (f x) (concat (map f xs)) j (subst (λ (w : ℕ). IsIn (f w) j) (sym e) m)
in_concat f (x ∷ xs) k j (inr h) m = in_right (f x) (concat (map f xs)) j (in_concat f xs k j h m)

-- ---- what a test leaves

pub in_filter : (p : ℕ → Bool) (xs : List ℕ) (j : ℕ) → IsIn (filter p xs) j ↔ (IsIn xs j × (p j ≡ true))
in_filter p [] j = (λ h. absurd h, λ h. absurd h.0)
in_filter p (x ∷ xs) j = go (p x) refl (in_filter p xs j)
  where
    go : (b : Bool) → p x ≡ b → (IsIn (filter p xs) j ↔ (IsIn xs j × (p j ≡ true))) → IsIn (cond b (x ∷ filter p xs) (filter p xs)) j ↔ (((x ≡ j) ⊎ IsIn xs j) × (p j ≡ true))
    go true e more = (
      λ h. elim h [ inl q ↦ (inl q, subst (λ (w : ℕ). p w ≡ true) q e) | inr k ↦ (inr (more.0 k).0, (more.0 k).1) ],
      λ h. elim h.0 [ inl q ↦ inl q | inr k ↦ inr (more.1 (k, h.1)) ],
    )
    go false e more = (
      λ h. (inr (more.0 h).0, (more.0 h).1),
      λ h. elim h.0 [ inl q ↦ absurd (none (subst (λ (w : ℕ). p w ≡ false) q e) h.1) | inr k ↦ more.1 (k, h.1) ],
    )
      where
        none : p j ≡ false → p j ≡ true → ⊥
        none f t = cc

-- ---- what two lists share

pub in_both : (hs gs : List ℕ) → (list_any (mem hs) gs ≡ true) ↔ ((h : ℕ) × IsIn gs h × IsIn hs h)
in_both hs [] = (λ e. cc, λ h. absurd h.1)
in_both hs (g ∷ gs) =
    let more = in_both hs gs in (
      λ e. elim (or_true (mem hs g) (list_any (mem hs) gs) e) [
        | inl here ↦ (g, inl refl, in_mem hs g here)
        | inr later ↦ (let m = more.0 later in (m.0, inr m.1, m.2))
      ],
      λ h. elim h.1 [
        | inl e ↦ or_left (mem hs g) (list_any (mem hs) gs) (mem_in hs g (subst (λ (w : ℕ). IsIn hs w) (sym e) h.2))
        | inr k ↦ or_right (mem hs g) (list_any (mem hs) gs) (more.1 (h.0, k, h.2))
      ],
    )
