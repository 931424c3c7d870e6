-- The constraints that are read of the spots so far, and the spots that are still to come.
use Rattle.std.proofs.Common.{◌≡◌, ℕ, zero, suc, ◌+◌, ◌<◌, List, [], ◌∷◌, ◌++◌, ◌||◌, length, get_or, take, drop, map, Bool, false, refl, sym, ap, subst, ◌∙◌, add-one, drop-cons, arith}
use Rattle.std.specs.List.{AllZip, list_any}
use Rattle.std.proofs.lemmas.Slice.Zip.{all_zipped_more}
use Rattle.fv_datum.proofs.Bools.{or_left, or_right}

module _ {X Y : Type 0} (f : X → Y) where
  take_more : (xs : List X) (i : ℕ) (x : X) → i < length xs → x ≡ get_or xs i x → map f (take (suc i) xs) ≡ map f (take i xs) ++ f x ∷ []
  take_more [] i x h is = absurd (omega arith)
  take_more (y ∷ ys) zero x h is = ap (λ z. f z ∷ []) (sym is)
  take_more (y ∷ ys) (suc i) x h is = ap (λ zs. f y ∷ zs) (take_more ys i x (omega arith) is)

  -- one more is made, of the next
  pub zipped : {Z : Type 0} (R : Y → Z → Type 0) (xs : List X) (i : ℕ) (x : X) (zs : List Z) (z : Z) → i < length xs → x ≡ get_or xs i x → AllZip R (map f (take i xs)) zs → R (f x) z
      → AllZip R (map f (take (i + 1) xs)) (zs ++ z ∷ [])
  zipped R xs i x zs z h is all made = rw (add-one, take_more xs i x h is) (all_zipped_more R (map f (take i xs)) zs (f x) z all made)

  turn : (test : Y → Bool) (xs : List X) (i : ℕ) (x : X) → i < length xs → x ≡ get_or xs i x
      → list_any test (map f (drop i xs)) ≡ (test (f x) || list_any test (map f (drop (i + 1) xs)))
  turn test xs i x h is = rw (add-one, drop-cons xs i x h, ← is) refl

  -- what none from one on is, none behind it is
  pub passes_later : (test : Y → Bool) (xs : List X) (i : ℕ) (x : X) → i < length xs → x ≡ get_or xs i x → list_any test (map f (drop i xs)) ≡ false → list_any test (map f (drop (i + 1) xs)) ≡ false
  passes_later test xs i x h is e = or_right (test (f x)) _ (sym (turn test xs i x h is) ∙ e)

-- what none is, the one at an index isn't
pub none_at : {X : Type 0} (test : X → Bool) (xs : List X) (i : ℕ) (x : X) → i < length xs → x ≡ get_or xs i x → list_any test xs ≡ false → test x ≡ false
none_at test [] i x h is e = absurd (omega arith)
none_at test (y ∷ ys) zero x h is e = ap test is ∙ or_left _ _ e
none_at test (y ∷ ys) (suc i) x h is e = none_at test ys i x (omega arith) is (or_right (test y) _ e)

zipped_more : {X Z : Type 0} (R : X → Z → Type 0) (xs : List X) (i : ℕ) (x : X) (zs : List Z) (z : Z) → i < length xs → x ≡ get_or xs i x → AllZip R (take i xs) zs → R x z
    → AllZip R (take (suc i) xs) (zs ++ z ∷ [])
zipped_more R [] i x zs z h is all made = absurd (omega arith)
zipped_more R (y ∷ ys) zero x [] z h is all made = (subst (λ v. R v z) is made, tt)
zipped_more R (y ∷ ys) zero x (w ∷ zs) z h is all made = absurd all
zipped_more R (y ∷ ys) (suc i) x [] z h is all made = absurd all
zipped_more R (y ∷ ys) (suc i) x (w ∷ zs) z h is all made = (all.0, zipped_more R ys i x zs z (omega arith) is all.1 made)

-- one more is made, of the next
pub zipped_next : {X Z : Type 0} (R : X → Z → Type 0) (xs : List X) (i : ℕ) (x : X) (zs : List Z) (z : Z) → i < length xs → x ≡ get_or xs i x → AllZip R (take i xs) zs → R x z
    → AllZip R (take (i + 1) xs) (zs ++ z ∷ [])
zipped_next R xs i x zs z h is all made = rw add-one (zipped_more R xs i x zs z h is all made)
