-- Lists that rise by a number.
use Rattle.std.proofs.Common.{◌≡◌, ℕ, ◌+◌, ◌<◌, ◌≤◌, ◌⊎◌, inl, inr, List, [], ◌∷◌, sym, ◌∙◌, arith}
use Rattle.std.specs.List.{AllByRecursion, flat_map, enumerate_from}
use Rattle.fv_extract.proofs.Loci.{pairwise_append}
use Rattle.fv_extract.specs.Pairs.{Pairwise}
use Rattle.fv_datum.proofs.Lists.{both_each, each_of}
use Rattle.fv_declare_judging.proofs.Alls.{all_append}

-- by a number, and where it is the same as said
abbrev pub ByNumber : {Y : Type 0} → (Y → ℕ) → (Y → Y → Type 0) → Y → Y → Type 0
ByNumber number R y z = (number y < number z) ⊎ ((number y ≡ number z) × R y z)

-- what is made of elements with their numbers, where each has the number of its element
module _ {X Y : Type 0} (number : Y → ℕ) (R : Y → Y → Type 0) (f : ℕ × X → List Y) (numbered : (e : ℕ × X) → AllByRecursion (λ y. number y ≡ e.0) (f e)) where
  made_from : (n : ℕ) (xs : List X) → AllByRecursion (λ y. n ≤ number y) (flat_map f (enumerate_from n xs))
  made_from n [] = tt
  made_from n (x ∷ xs) =
      all_append (λ y. n ≤ number y) (f (n, x)) _
      (each_of (λ y. number y ≡ n) (λ y. n ≤ number y) (f (n, x)) (λ y e. omega (arith, e)) (numbered (n, x)))
      (each_of (λ y. n + 1 ≤ number y) (λ y. n ≤ number y) _ (λ y e. omega arith) (made_from (n + 1) xs))

  of_one : (n : ℕ) (ys : List Y) → AllByRecursion (λ y. number y ≡ n) ys → Pairwise R ys → Pairwise (ByNumber number R) ys
  of_one n [] same rise = tt
  of_one n (y ∷ ys) same rise = (
    each_of (λ z. (number z ≡ n) × R y z) (ByNumber number R y) ys (λ z h. inr (same.0 ∙ sym h.0, h.1)) (both_each (λ z. number z ≡ n) (R y) ys same.1 rise.0),
    of_one n ys same.1 rise.1,
  )

  pub made_rise : (P : X → Type 0) → ((n : ℕ) (x : X) → P x → Pairwise R (f (n, x))) → (n : ℕ) (xs : List X) → AllByRecursion P xs → Pairwise (ByNumber number R) (flat_map f (enumerate_from n xs))
  made_rise P each n [] all = tt
  made_rise P each n (x ∷ xs) all =
      let rest = flat_map f (enumerate_from (n + 1) xs) in
      pairwise_append (ByNumber number R) (f (n, x)) rest (of_one n (f (n, x)) (numbered (n, x)) (each n x all.0)) (made_rise P each (n + 1) xs all.1)
      (each_of (λ y. number y ≡ n) (λ y. AllByRecursion (ByNumber number R y) rest) (f (n, x))
      (λ y e. each_of (λ z. n + 1 ≤ number z) (ByNumber number R y) rest (λ z h. inl (omega (arith, e, h))) (made_from (n + 1) xs)) (numbered (n, x)))
