-- The valid places of a type, as two searches find them among all.
use Rattle.std.proofs.Common.{◌≡◌, ◌≢◌, ◌<◌, ◌≤◌, ℕ, zero, suc, inl, inr, List, [], ◌∷◌, map, length, take, drop, get_or, Bool, true, false, cond, nat_lt, leb, nat_eq, refl, ap, ◌∙◌, arith}
use Rattle.std.proofs.lemmas.Bool.{ltb-true, ltb-false, leb-true, leb-false, eq-eqb, ne_eqb}
use Rattle.std.proofs.Math.Seq.{take-nil, drop-nil}
use Rattle.std.specs.List.{AllByRecursion, filter}
use Rattle.std.specs.List.Sorted.{IsPartitionPoint, IsNonDecreasingBy}
use Rattle.fv_declare_schema.specs.ValidPlaces.{ValidPlace}
use Rattle.fv_declare_schema.specs.Ordered.{PrecedesPlace, ArePlacesRising}

-- a test of what elements are made to passes over a list before or after they are made to it
pub filter-map : {X Y : Type 0} (p : Y → Bool) (f : X → Y) (xs : List X) → map f (filter (λ x. p (f x)) xs) ≡ filter p (map f xs)
filter-map p f [] = refl
filter-map p f (x ∷ xs) = go (p (f x)) (filter-map p f xs)
  where
    go : (b : Bool) → map f (filter (λ x. p (f x)) xs) ≡ filter p (map f xs) → map f (cond b (x ∷ filter (λ x. p (f x)) xs) (filter (λ x. p (f x)) xs)) ≡ cond b (f x ∷ filter p (map f xs)) (filter p (map f xs))
    go true e = ap (λ ys. f x ∷ ys) e
    go false e = e

module _ {X : Type 0} where
  -- the elements before a place pass a test, and the others fail it
  abbrev pub Parts : (X → Bool) → List X → ℕ → Type 0
  Parts p xs i = IsPartitionPoint (λ x. p x ≡ true) (λ x. p x ≡ false) xs i

  next : (p : X → Bool) (x : X) (xs : List X) (n : ℕ) → Parts p (x ∷ xs) (suc n) → Parts p xs n
  next p x xs n h = (λ i d low high. h.0 (suc i) d (omega arith) (omega arith), λ i d low high. h.1 (suc i) d (omega arith) (omega arith))

  still : (p : X → Bool) (x : X) (xs : List X) → Parts p (x ∷ xs) zero → Parts p xs zero
  still p x xs h = (λ i d low high. absurd (omega arith), λ i d low high. h.1 (suc i) d (omega arith) (omega arith))

module _ {X : Type 0} (n : X → ℕ) (t : ℕ) where
  abbrev below : X → Bool
  below x = nat_lt (n x) t

  abbrev upto : X → Bool
  upto x = leb (n x) t

  abbrev has : X → Bool
  has x = nat_eq (n x) t

  kept : (x : X) (xs ys : List X) → below x ≡ false → upto x ≡ true → ys ≡ filter has xs → x ∷ ys ≡ filter has (x ∷ xs)
  kept x xs ys low high e =
      let is : has x ≡ true = eq-eqb (n x) t (omega (arith, ltb-false (n x) t low, leb-true (n x) t high)) in
      rw is (ap (λ zs. x ∷ zs) e)

  left : (x : X) (xs ys : List X) → n x ≢ t → ys ≡ filter has xs → ys ≡ filter has (x ∷ xs)
  left x xs ys not e =
      let is : has x ≡ false = ne_eqb (n x) t not in
      rw is e

  pub found : (xs : List X) (first count : ℕ) → Parts below xs first → Parts upto (drop first xs) count → take count (drop first xs) ≡ filter has xs
  found [] first count low high = ap (take count) (drop-nil first) ∙ take-nil count
  found (x ∷ xs) zero zero low high =
      left x xs [] (λ is. let over : t < n x = leb-false (n x) t (high.1 0 x (omega arith) (omega arith)) in omega arith)
      (found xs zero zero (still below x xs low) (still upto x xs high))
  found (x ∷ xs) zero (suc count) low high =
      kept x xs (take count xs) (low.1 0 x (omega arith) (omega arith)) (high.0 0 x (omega arith) (omega arith))
      (found xs zero count (still below x xs low) (next upto x xs count high))
  found (x ∷ xs) (suc first) count low high =
      left x xs (take count (drop first xs)) (λ is. let under : n x < t = ltb-true (n x) t (low.0 0 x (omega arith) (omega arith)) in omega arith)
      (found xs first count (next below x xs first low) high)

-- ---- valid places rise by their types

module _ {X : Type 0} (f : X → ValidPlace) where
  no_earlier : (p q : ValidPlace) → PrecedesPlace p q → p.type ≤ q.type
  no_earlier p q (inl below) = omega arith
  no_earlier p q (inr both) = omega (arith, both.0)

  least : (p : ValidPlace) (xs : List X) (j : ℕ) (d : X) → AllByRecursion (PrecedesPlace p) (map f xs) → j < length xs → p.type ≤ (f (get_or xs j d)).type
  least p [] j d all at = absurd (omega arith)
  least p (x ∷ xs) zero d all at = no_earlier p (f x) all.0
  least p (x ∷ xs) (suc j) d all at = least p xs j d all.1 (omega arith)

  pub types_rise : (xs : List X) → ArePlacesRising (map f xs) → IsNonDecreasingBy (λ x. (f x).type) xs
  types_rise [] rise i j d le at = absurd (omega arith)
  types_rise (x ∷ xs) rise zero zero d le at = omega arith
  types_rise (x ∷ xs) rise zero (suc j) d le at = least (f x) xs j d rise.0 (omega arith)
  types_rise (x ∷ xs) rise (suc i) zero d le at = absurd (omega arith)
  types_rise (x ∷ xs) rise (suc i) (suc j) d le at = types_rise xs rise.1 i j d (omega arith) (omega arith)
