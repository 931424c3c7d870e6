-- What is found of a list whose names are looked up.
use Rattle.std.proofs.Common.{◌≡◌, ◌≢◌, ◌⊎◌, inl, inr, ℕ, suc, List, [], ◌∷◌, ◌++◌, cond, Bool, true, false, Option, Some, bytes_eq, refl, sym, subst, arith}
use Rattle.std.specs.List.{AllByRecursion}
use Rattle.std.proofs.lemmas.List.Elements.{recursion_from_All}
use Rattle.std.proofs.lemmas.Slice.Eq.{bytes_eq-Decides}
use Rattle.fv_datum.specs.Lookup.{at_name}
use Rattle.fv_bundle.specs.Types.{AreApart}
use Rattle.fv_widening.specs.Narrowed.{found_from}

pub both_none : {P : Type 0} (xs ys : List P) → xs ++ ys ≡ [] → (xs ≡ []) × (ys ≡ [])
both_none [] ys none = (refl, none)
both_none (x ∷ xs) ys none = cc

chosen : {X : Type 0} (b : Bool) (x : X) (rest : Option X) (y : X) → cond b (Some x) rest ≡ Some y → ((b ≡ true) × (x ≡ y)) ⊎ (rest ≡ Some y)
chosen true x rest y is = inl (refl, (let same : x ≡ y = cc in same))
chosen false x rest y is = inr is

-- where nothing is found, all that is found at a name is as it is where nothing is found of it
pub all_fine : {X P : Type 0} (f : ℕ → List ℕ × X → List P) (Q : List ℕ → X → Type 0) → ((n : ℕ) (e : List ℕ × X) → f n e ≡ [] → Q e.0 e.1)
    → (n : ℕ) (es : List (List ℕ × X)) → found_from f n es ≡ [] → (name : List ℕ) (x : X) → at_name name es ≡ Some x → Q name x
all_fine f Q sound n [] none name x is = cc
all_fine {X = X} f Q sound n (e ∷ es) none name x is =
    let parts = both_none (f n e) (found_from f (suc n) es) none in
    elim (chosen (bytes_eq name e.0) e.1 (at_name name es) x is) [
      | inl here ↦ (
          let same : e.0 ≡ name = sym ((bytes_eq-Decides name e.0).0 here.0) in
          subst (λ (y : X). Q name y) here.1 (subst (λ (n : List ℕ). Q n e.1) same (sound n e parts.0))
          )
      | inr more ↦ all_fine f Q sound (suc n) es parts.1 name x more
    ]

-- nothing is found of elements of each of which nothing is found
pub none_found : {X P : Type 0} (f : ℕ → List ℕ × X → List P) (Q : List ℕ × X → Type 0) → ((n : ℕ) (e : List ℕ × X) → Q e → f n e ≡ [])
    → (n : ℕ) (es : List (List ℕ × X)) → AllByRecursion Q es → found_from f n es ≡ []
none_found f Q complete n [] all = refl
none_found f Q complete n (e ∷ es) all = rw (complete n e all.0) (none_found f Q complete (suc n) es all.1)

-- ---- names that stand once

others : {X : Type 0} (e : List ℕ × X) (es : List (List ℕ × X)) → AreApart (e ∷ es) → AllByRecursion (λ f. f.0 ≢ e.0) es
others e es h = recursion_from_All (λ f. f.0 ≢ e.0) es (λ k d within same. h 0 (suc k) d (omega arith) (omega arith) (sym same))

rest_apart : {X : Type 0} (e : List ℕ × X) (es : List (List ℕ × X)) → AreApart (e ∷ es) → AreApart es
rest_apart e es h i j d lt within = h (suc i) (suc j) d (omega arith) (omega arith)

other_bytes : (xs ys : List ℕ) (b : Bool) → bytes_eq xs ys ≡ b → xs ≢ ys → b ≡ false
other_bytes xs ys true e other = absurd (other ((bytes_eq-Decides xs ys).0 e))
other_bytes xs ys false e other = refl

skip : {X : Type 0} (d : List ℕ × X) (all es : List (List ℕ × X)) → AllByRecursion (λ e. e.0 ≢ d.0) es → AllByRecursion (λ e. at_name e.0 all ≡ Some e.1) es → AllByRecursion (λ e. at_name e.0 (d ∷ all) ≡ Some e.1) es
skip d all [] other known = tt
skip d all (e ∷ es) other known = (rw (other_bytes e.0 d.0 _ refl other.0) known.0, skip d all es other.1 known.1)

-- each is found by its name
pub found_each : {X : Type 0} (es : List (List ℕ × X)) → AreApart es → AllByRecursion (λ e. at_name e.0 es ≡ Some e.1) es
found_each [] apart = tt
found_each (e ∷ es) apart = (rw ((bytes_eq-Decides e.0 e.0).1 refl) refl, skip e es es (others e es apart) (found_each es (rest_apart e es apart)))
