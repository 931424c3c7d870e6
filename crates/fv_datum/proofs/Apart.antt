-- Names that stand once.
use Rattle.std.proofs.Common.{◌≢◌, ℕ, suc, List, ◌∷◌, sym, arith}
use Rattle.std.specs.List.{AllByRecursion, AllPairs}
use Rattle.std.proofs.lemmas.List.Elements.{recursion_from_All}

-- the names after the first differ from it
pub apart-head : {X : Type 0} (e : List ℕ × X) (es : List (List ℕ × X)) → AllPairs (λ a b. a.0 ≢ b.0) (e ∷ es) → AllByRecursion (λ f. f.0 ≢ e.0) es
apart-head e es h = recursion_from_All (λ f. f.0 ≢ e.0) es (λ k d within same. h 0 (suc k) d (omega arith) (omega arith) (sym same))

pub apart-tail : {X : Type 0} (e : List ℕ × X) (es : List (List ℕ × X)) → AllPairs (λ a b. a.0 ≢ b.0) (e ∷ es) → AllPairs (λ a b. a.0 ≢ b.0) es
apart-tail e es h i j d lt within = h (suc i) (suc j) d (omega arith) (omega arith)
