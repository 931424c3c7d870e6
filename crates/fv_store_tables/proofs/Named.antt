-- An object is found by its name where a search among objects meets it.
use Rattle.std.proofs.Common.{◌≡◌, ◌<◌, ◌||◌, inl, inr, zero, suc, ℕ, Bool, true, false, length, take, get_or, bytes_eq, List, [], ◌∷◌, Ordering, Equal, is_eq, nat_cmp, Result, Ok, Err, is_ok, true≢false, refl, sym, ap, ◌∙◌, arith}
use Rattle.std.specs.Cmp.Lexicographic.{slice_cmp}
use Rattle.std.specs.List.{HoldsAt}
use Rattle.std.specs.List.Sorted.{IsSearchInRange, IsBinarySearchResult}
use Rattle.std.proofs.lemmas.List.{take_all}
use Rattle.std.proofs.lemmas.Map.Text.{is_eq-slice_cmp}
use Rattle.std.proofs.lemmas.Slice.Eq.{bytes_eq-Decides}
use Rattle.sqlite_rules.specs.Lists.{Has}
use Rattle.fv_store_tables.specs.declared.entry.FoundRow.{FoundRow}
use Rattle.fv_store_tables.specs.declared.text.ObjectText.{ObjectText}
use Rattle.fv_store_tables.specs.Changes.{has_name, objects_view}

-- how a name compares with the one that is looked for
abbrev pub beside : List ℕ → ObjectText → Ordering
beside name o = slice_cmp nat_cmp o.name.now name

-- the same of a row
abbrev pub row_beside : List ℕ → FoundRow → Ordering
row_beside name r = slice_cmp nat_cmp r.name.now name

-- the text that a search is handed
pub handed : (name : List ℕ) → take (length name) name ≡ name
handed name = take_all (length name) name (omega arith)

-- the element at a place
pub element : {X : Type 0} (xs : List X) (i : ℕ) (d e : X) → i < length xs → get_or xs i d ≡ get_or xs i e
element [] i d e below = absurd (omega arith)
element (x ∷ xs) zero d e below = refl
element (x ∷ xs) (suc i) d e below = element xs i d e (omega arith)

pub at_has : {X : Type 0} (xs : List X) (i : ℕ) (d : X) → i < length xs → Has xs (get_or xs i d)
at_has [] i d below = absurd (omega arith)
at_has (x ∷ xs) zero d below = inl refl
at_has (x ∷ xs) (suc i) d below = inr (at_has xs i d (omega arith))

-- the row there is of the name
pub row_met : (name : List ℕ) (rows : List FoundRow) (i : ℕ) (d : FoundRow) → i < length rows → HoldsAt (λ x. row_beside name x ≡ Equal) rows i → Has rows (get_or rows i d) × ((get_or rows i d).name.now ≡ name)
row_met name rows i d below met =
    let r = get_or rows i d in
    let same : row_beside name r ≡ Equal = met d in
    (at_has rows i d below, (bytes_eq-Decides r.name.now name).0 (sym (is_eq-slice_cmp r.name.now name) ∙ ap is_eq same))

-- an object of the name is among these
object_there : (name : List ℕ) (os : List ObjectText) (i : ℕ) → i < length os → HoldsAt (λ o. beside name o ≡ Equal) os i → true ≡ has_name name (objects_view os)
object_there name [] i below met = absurd (omega arith)
object_there name (o ∷ os) zero below met = let same = sym (is_eq-slice_cmp o.name.now name) ∙ ap is_eq (met o) in rw same refl
object_there name (o ∷ os) (suc i) below met = rw (← object_there name os i (omega arith) met) (sym (or_true (bytes_eq o.name.now name)))
  where
    or_true : (b : Bool) → (b || true) ≡ true
    or_true true = refl
    or_true false = refl

pub object_met : (name : List ℕ) (os : List ObjectText) (r : Result ℕ ℕ) → IsSearchInRange r (length os) → IsBinarySearchResult (beside name) os r → is_ok r ≡ true → true ≡ has_name name (objects_view os)
object_met name os (Ok i) bound met ok = object_there name os i bound met
object_met name os (Err i) bound met ok = absurd (true≢false (sym ok))
