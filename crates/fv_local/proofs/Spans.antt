-- The uses of a type, by the places that two searches find.
use Rattle.std.proofs.Common.{◌≡◌, ◌<◌, ◌≤◌, ◌⊎◌, ◌↔◌, ℕ, zero, suc, List, [], ◌∷◌, length, map, get_or, true, false, Some, slice_get, nat_lt, leb, refl, sym, ap, ◌∙◌, inl, inr, arith}
use Rattle.std.proofs.lemmas.Bool.{ltb-true, ltb-false, leb-true, leb-false}
use Rattle.std.specs.List.{AllByRecursion}
use Rattle.std.specs.List.Sorted.{IsNonDecreasingBy, IsPartitionPoint}
use Rattle.fv_declare_schema.specs.Declarations.{Placed}
use Rattle.fv_declare_schema.specs.Ordered.{Precedes, IsRising}

split : (a b : ℕ) → (a < b) ⊎ (b ≤ a)
split zero zero = inr (omega arith)
split zero (suc b) = inl (omega arith)
split (suc a) zero = inr (omega arith)
split (suc a) (suc b) = elim (split a b) [ inl l ↦ inl (omega arith) | inr g ↦ inr (omega arith) ]

module _ {X : Type 0} (f : X → Placed) where
  -- what stands at a place
  at_place : (xs : List X) (i : ℕ) (u : Placed) → slice_get (map f xs) i ≡ Some u → (x : X) × (i < length xs) × (f x ≡ u) × ((d : X) → get_or xs i d ≡ x)
  at_place [] i u e = cc
  at_place (x ∷ xs) zero u e = (x, omega arith, cc, λ d. refl)
  at_place (x ∷ xs) (suc i) u e = let r = at_place xs i u e in (r.0, omega arith, r.2, r.3)

  -- ---- types rise

  later_type : (u v : Placed) → Precedes u v → u.type ≤ v.type
  later_type u v (inl below) = omega arith
  later_type u v (inr both) = omega (arith, both.0)

  first_least : (u : Placed) (xs : List X) (j : ℕ) (d : X) → AllByRecursion (Precedes u) (map f xs) → j < length xs → u.type ≤ (f (get_or xs j d)).type
  first_least u [] j d all at = absurd (omega arith)
  first_least u (x ∷ xs) zero d all at = later_type u (f x) all.0
  first_least u (x ∷ xs) (suc j) d all at = first_least u xs j d all.1 (omega arith)

  pub types_rise : (xs : List X) → IsRising (map f xs) → IsNonDecreasingBy (λ x. (f x).type) xs
  types_rise [] rise i j d le at = absurd (omega arith)
  types_rise (x ∷ xs) rise zero zero d le at = omega arith
  types_rise (x ∷ xs) rise zero (suc j) d le at = first_least (f x) xs j d rise.0 (omega arith)
  types_rise (x ∷ xs) rise (suc i) zero d le at = absurd (omega arith)
  types_rise (x ∷ xs) rise (suc i) (suc j) d le at = types_rise xs rise.1 i j d (omega arith) (omega arith)

  -- ---- between the places

  module _ (xs : List X) (type first end : ℕ)
      (lower : IsPartitionPoint (λ x. nat_lt (f x).type type ≡ true) (λ x. nat_lt (f x).type type ≡ false) xs first)
      (upper : IsPartitionPoint (λ x. leb (f x).type type ≡ true) (λ x. leb (f x).type type ≡ false) xs end) where
    typed : (i : ℕ) (u : Placed) → slice_get (map f xs) i ≡ Some u → (first ≤ i) × (i < end) → u.type ≡ type
    typed i u e inside =
        let here = at_place xs i u e in
        let same : f (get_or xs i here.0) ≡ u = ap f (here.3 here.0) ∙ here.2 in
        let low : nat_lt u.type type ≡ false = ap (λ (v : Placed). nat_lt v.type type) (sym same) ∙ lower.1 i here.0 inside.0 here.1 in
        let high : leb u.type type ≡ true = ap (λ (v : Placed). leb v.type type) (sym same) ∙ upper.0 i here.0 (omega arith) inside.1 in
        let ge : type ≤ u.type = ltb-false u.type type low in
        let le : u.type ≤ type = leb-true u.type type high in
        omega arith

    found : (i : ℕ) (u : Placed) → slice_get (map f xs) i ≡ Some u → u.type ≡ type → (first ≤ i) × (i < end)
    found i u e is =
        let here = at_place xs i u e in
        let same : f (get_or xs i here.0) ≡ u = ap f (here.3 here.0) ∙ here.2 in (
          elim (split i first) [
            | inl before ↦ (let less : u.type < type = ltb-true u.type type (ap (λ (v : Placed). nat_lt v.type type) (sym same) ∙ lower.0 i here.0 (omega arith) before) in absurd (omega arith))
            | inr after ↦ after
          ],
          elim (split i end) [
            | inl before ↦ before
            | inr after ↦ (let more : type < u.type = leb-false u.type type (ap (λ (v : Placed). leb v.type type) (sym same) ∙ upper.1 i here.0 after here.1) in absurd (omega arith))
          ],
        )

    pub between : (i : ℕ) (u : Placed) → slice_get (map f xs) i ≡ Some u → ((first ≤ i) × (i < end)) ↔ (u.type ≡ type)
    between i u e = (typed i u e, found i u e)
