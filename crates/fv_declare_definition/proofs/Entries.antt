-- A map that is made entry by entry of the entries of another, under the same names.
use Rattle.std.proofs.Common.{◌≡◌, ℕ, List, [], ◌∷◌, ◌++◌, map, Option, Some, String, string_bytes, string_cmp, sym, ap, ◌∙◌, append_assoc}
use Rattle.std.proofs.lemmas.List.{map-append}
use Rattle.std.specs.declared.alloc.Global.{Global}
use Rattle.std.specs.List.Sorted.{IsStrictlySortedBy}
use Rattle.std.specs.Map.{keys_of}
use Rattle.fv_datum.specs.Members.{each_some}
use Rattle.fv_datum.specs.Ascending.{IsAscending}
use Rattle.fv_datum.specs.EntryNames.{names_of}
use Rattle.fv_datum.proofs.Fronts.{with_front, front_more}
use Rattle.fv_datum.proofs.Sorted.{names-ascend}

-- the name of the next entry is above those before it
pub next_above : {X V : Type 0} (all it rest : List (String Global × X)) (es : List (String Global × V)) (k : String Global) (x : X) → IsStrictlySortedBy string_cmp (keys_of all) → it ≡ (k, x) ∷ rest
    → names_of es ++ names_of it ≡ names_of all → (more : List (List ℕ)) × IsAscending (names_of es ++ string_bytes k ∷ more)
next_above all it rest es k x sorted steps names =
    let whole : names_of es ++ string_bytes k ∷ names_of rest ≡ names_of all = ap (λ ns. names_of es ++ ns) (sym (ap names_of steps)) ∙ names in
    let ascends : IsAscending (names_of es ++ string_bytes k ∷ names_of rest) = rw whole (names-ascend all sorted) in
    (names_of rest, ascends)

module _ {V : Type 0} (es new : List (String Global × V)) (key : String Global) (v : V) (put : new ≡ es ++ (key, v) ∷ []) where
  pub more_names : {X : Type 0} (all it rest : List (String Global × X)) (k : String Global) (x : X) → it ≡ (k, x) ∷ rest → string_bytes key ≡ string_bytes k
      → names_of es ++ names_of it ≡ names_of all → names_of new ++ names_of rest ≡ names_of all
  more_names all it rest k x steps same names =
      ap (λ ns. ns ++ names_of rest) (ap names_of put ∙ map-append (λ e. string_bytes e.0) es ((key, v) ∷ []) ∙ ap (λ n. names_of es ++ n ∷ []) same)
      ∙ append_assoc (names_of es) (string_bytes k ∷ []) (names_of rest) ∙ ap (λ ns. names_of es ++ ns) (sym (ap names_of steps)) ∙ names

  pub more_made : {Y Z : Type 0} (f : Z → Option Y) (view : String Global × V → Y) (left more : List Z) (z : Z) (whole : Option (List Y)) → left ≡ z ∷ more → f z ≡ Some (view (key, v))
      → with_front (map view es) (each_some f left) ≡ whole → with_front (map view new) (each_some f more) ≡ whole
  more_made f view left more z whole steps found made =
      ap (λ front. with_front front (each_some f more)) (ap (map view) put ∙ map-append view es ((key, v) ∷ [])) ∙ sym (front_more f (map view es) z more (view (key, v)) found)
      ∙ ap (λ zs. with_front (map view es) (each_some f zs)) (sym steps) ∙ made
