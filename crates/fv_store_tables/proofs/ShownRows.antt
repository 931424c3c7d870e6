-- What is read of rows that show a list, each row one of its elements.
use Rattle.std.proofs.Common.{◌≡◌, ◌<◌, ℕ, zero, suc, List, [], ◌∷◌, length, get_or, map, refl, sym, ap, ap₂, ◌∙◌, arith}
use Rattle.std.specs.List.{AllByRecursion}
use Rattle.sqlite.specs.Order.{Row}

module _ {T : Type 0} (shown : T → Row) where
  -- a row of those shows an element, of which is known what is known of all
  pub one_shown : (IsText : T → Type 0) (rows : List Row) (xs : List T) (i : ℕ) (row : Row) → i < length rows → row ≡ get_or rows i row → rows ≡ map shown xs → AllByRecursion IsText xs
      → (x : T) × (row ≡ shown x) × IsText x
  one_shown IsText [] xs i row within is shows texts = absurd (omega arith)
  one_shown IsText (r ∷ rows) [] i row within is shows texts = cc
  one_shown IsText (r ∷ rows) (x ∷ xs) zero row within is shows texts =
      let head : r ≡ shown x = cc in
      (x, is ∙ head, texts.0)
  one_shown IsText (r ∷ rows) (x ∷ xs) (suc i) row within is shows texts =
      let tail : rows ≡ map shown xs = cc in
      one_shown IsText rows xs i row (omega arith) is tail texts.1

  -- what is read is what the rows show
  pub same_shown : {V : Type 0} (back : Row → T) → ((x : T) → back (shown x) ≡ x) → (view : V → T) (xs : List T) (read : List V) → map shown xs ≡ map (λ v. shown (view v)) read → map view read ≡ xs
  same_shown back undoes view [] [] same = refl
  same_shown back undoes view [] (v ∷ read) same = absurd cc
  same_shown back undoes view (x ∷ xs) [] same = absurd cc
  same_shown back undoes view (x ∷ xs) (v ∷ read) same =
      let head : shown x ≡ shown (view v) = cc in
      let tail : map shown xs ≡ map (λ v. shown (view v)) read = cc in
      ap₂ (λ (y : T) ys. y ∷ ys) (sym (undoes (view v)) ∙ sym (ap back head) ∙ undoes x) (same_shown back undoes view xs read tail)

  -- rows that have no more columns than these
  pub fronts : (columns : Row → Row) → ((x : T) → columns (shown x) ≡ shown x) → (xs : List T) → map columns (map shown xs) ≡ map shown xs
  fronts columns whole [] = refl
  fronts columns whole (x ∷ xs) = ap₂ (λ (r : Row) rs. r ∷ rs) (whole x) (fronts columns whole xs)
