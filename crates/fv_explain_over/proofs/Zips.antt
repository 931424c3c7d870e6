-- Two lists side by side.
use Rattle.std.proofs.Common.{ℕ, ◌+◌, ◌<◌, List, [], ◌∷◌, ◌++◌, length, get_or, take, sym, subst}
use Rattle.std.proofs.lemmas.List.{take_more}
use Rattle.std.specs.List.{AllZip}

push : {A B : Type 0} (R : A → B → Type 0) (xs : List A) (ys : List B) (x : A) (y : B) → AllZip R xs ys → R x y → AllZip R (xs ++ x ∷ []) (ys ++ y ∷ [])
push R [] [] x y all is = (is, tt)
push R [] (y' ∷ ys) x y all is = absurd all
push R (x' ∷ xs) [] x y all is = absurd all
push R (x' ∷ xs) (y' ∷ ys) x y all is = (all.0, push R xs ys x y all.1 is)

-- one more of each
pub zip_more : {A B : Type 0} (R : A → B → Type 0) (xs : List A) (ys : List B) (i : ℕ) (d : A) (y : B) → i < length xs → AllZip R (take i xs) ys → R (get_or xs i d) y → AllZip R (take (i + 1) xs) (ys ++ y ∷ [])
zip_more R xs ys i d y before all is = subst (λ l. AllZip R l (ys ++ y ∷ [])) (sym (take_more xs i d before)) (push R (take i xs) ys (get_or xs i d) y all is)
