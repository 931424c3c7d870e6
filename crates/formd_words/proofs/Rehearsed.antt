-- Records that a rehearsal asks for.
use Rattle.std.proofs.Common.{◌≡◌, ◌++◌, ◌∙◌, ℕ, ℤ, List, [], ◌∷◌, refl, subst}
use Rattle.fv_engine_lines.specs.Runs.{Steps}
use Rattle.formd_words.specs.Rehearsals.{Asks, get_line}

module _ {P : Type 0} (step : Steps P) (now : ℤ) where
  pub asks_none : (old : P) → (ids : List (List ℕ)) × Asks step now old ids old
  asks_none old = ([], refl)

  pub asks_one : (old new : P) (told : ℤ) (bytes text id reply : List ℕ) → told ≡ now → bytes ≡ text → text ≡ get_line id → step old bytes told reply new
      → (ids : List (List ℕ)) × Asks step now old ids new
  asks_one old new told bytes text id reply same is line s = (
    id ∷ [],
    (new, reply, subst (λ (t : ℤ). step old (get_line id) t reply new) same (subst (λ (l : List ℕ). step old l told reply new) (is ∙ line) s), refl),
  )

  asks_on : (ids more : List (List ℕ)) (a b c : P) → Asks step now a ids b → Asks step now b more c → Asks step now a (ids ++ more) c
  asks_on [] more a b c first rest = subst (λ (p : P). Asks step now p more c) first rest
  asks_on (id ∷ ids) more a b c first rest = (first.0, first.1, first.2, asks_on ids more first.0 b c first.3 rest)

  pub asks_then : (a b c : P) → ((ids : List (List ℕ)) × Asks step now a ids b) → ((ids : List (List ℕ)) × Asks step now b ids c) → (ids : List (List ℕ)) × Asks step now a ids c
  asks_then a b c first rest = (first.0 ++ rest.0, asks_on first.0 rest.0 a b c first.1 rest.1)

-- the same moment
pub asks_at : {P : Type 0} (step : Steps P) (told now : ℤ) (old new : P) → told ≡ now → ((ids : List (List ℕ)) × Asks step told old ids new) → (ids : List (List ℕ)) × Asks step now old ids new
asks_at step told now old new same asks = subst (λ (t : ℤ). (ids : List (List ℕ)) × Asks step t old ids new) same asks
