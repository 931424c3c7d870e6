-- What is found from one element of a list on.
use Rattle.std.proofs.Common.{◌≡◌, ℕ, ◌+◌, ◌<◌, List, [], ◌∷◌, ◌++◌, length, get_or, drop, Some, slice_get, refl, sym, ap, ◌∙◌, append_assoc, add-one, drop-cons}
use Rattle.std.proofs.lemmas.Option.{slice_get-get_or}
use Rattle.fv_bundle.specs.Types.{Declared}
use Rattle.fv_widening.specs.Narrowed.{found_from, named_narrowed, numbered_narrowed}

-- where an iterator gives an element
pub entry_turn : {X P : Type 0} (f : ℕ → X → List P) (i : ℕ) (x : X) (xs : List X) → found_from f i (x ∷ xs) ≡ f i x ++ found_from f (i + 1) xs
entry_turn f i x xs = rw add-one refl

-- at a type of a number
pub numbered_turn : (old new : Declared) (i : ℕ) → i < length old → found_from (named_narrowed new) i (drop i old) ≡ numbered_narrowed old new i ++ found_from (named_narrowed new) (i + 1) (drop (i + 1) old)
numbered_turn old new i h =
    let is : slice_get old i ≡ Some (get_or old i ([], [])) = slice_get-get_or old i ([], []) h in
    rw (add-one, drop-cons old i ([], []) h, is) refl

-- what stood for all with what was found, and with the rest of it, does so one element further on
pub after_turn : {P : Type 0} (before here rest whole after all : List P) → before ++ whole ≡ all → whole ≡ here ++ rest → after ≡ before ++ here → after ++ rest ≡ all
after_turn before here rest whole after all stood turn found =
    let more : (before ++ here) ++ rest ≡ before ++ (here ++ rest) = simp append_assoc in
    ap (λ xs. xs ++ rest) found ∙ more ∙ ap (λ xs. before ++ xs) (sym turn) ∙ stood
