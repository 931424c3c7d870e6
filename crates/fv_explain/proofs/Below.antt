-- The numbers below a limit of which something is so, one after another.
use Rattle.std.proofs.Common.{◌≡◌, ◌<◌, ◌+◌, ◌++◌, ◌∷◌, ℕ, List, [], sym, subst, arith, inl, inr}
use Rattle.std.proofs.lemmas.Bool.{cases_lt}
use Rattle.std.proofs.lemmas.List.Elements.{Contains-get_or, Contains-push, Contains-push_cases, Contains-append_left}
use Rattle.std.proofs.lemmas.List.Quantifiers.{all_pairs_push}
use Rattle.std.specs.List.{Contains}
use Rattle.fv_explain.specs.Explained.{AreThoseBelow}

-- it is so of the next
pub below_add : (n : ℕ) (P : ℕ → Type 0) (found : List ℕ) → P n → AreThoseBelow n P found → AreThoseBelow (n + 1) P (found ++ n ∷ [])
below_add n P found here was = record {
  rising = all_pairs_push (λ (m k : ℕ). m < k) found n was.rising (λ k d h. ((was.exact _).0 (Contains-get_or found k d h)).0);
  exact = λ m. (
    λ c. elim (Contains-push_cases found n m c) [
      | inl old ↦ let b : m < n = ((was.exact m).0 old).0 in (omega arith, ((was.exact m).0 old).1)
      | inr is ↦ (omega arith, subst P is here)
    ],
    λ p. elim (cases_lt m n) [
      | inl below ↦ Contains-append_left found (n ∷ []) m ((was.exact m).1 (below, p.1))
      | inr above ↦
          let b : m < n + 1 = p.0 in
          let is : n ≡ m = omega arith in
          subst (Contains (found ++ n ∷ [])) is (Contains-push found n)
    ],
  );
}

-- it isn't so of the next
pub below_skip : (n : ℕ) (P : ℕ → Type 0) (found : List ℕ) → (P n → ⊥) → AreThoseBelow n P found → AreThoseBelow (n + 1) P found
below_skip n P found never was = record {
  rising = was.rising;
  exact = λ m. (
    λ c. let b : m < n = ((was.exact m).0 c).0 in (omega arith, ((was.exact m).0 c).1),
    λ p. elim (cases_lt m n) [
      | inl below ↦ (was.exact m).1 (below, p.1)
      | inr above ↦
          let b : m < n + 1 = p.0 in
          let is : m ≡ n = omega arith in
          absurd (never (subst P is p.1))
    ],
  );
}
