-- Names that ascend: one above those before it goes last.
use Rattle.std.proofs.Common.{◌≡◌, ℕ, List, [], ◌∷◌, ◌++◌, String, Less, Greater, string_bytes, string_cmp, nat_cmp, refl, ap, ◌∙◌}
use Rattle.std.specs.declared.alloc.Global.{Global}
use Rattle.std.specs.BTreeMap.{insert_entry}
use Rattle.std.specs.Cmp.Lexicographic.{slice_cmp}
use Rattle.std.specs.List.{AllByRecursion}
use Rattle.std.specs.List.Sorted.{IsStrictlySortedBy}
use Rattle.std.specs.Map.{keys_of}
use Rattle.std.specs.Ordering.{ordering_reverse}
use Rattle.std.proofs.lemmas.Cmp.{nat_list_cmp_total}
use Rattle.fv_datum.specs.Ascending.{IsAscending}
use Rattle.fv_datum.specs.EntryNames.{names_of}

below_names : {X : Type 0} (k : String Global) (es : List (String Global × X)) → AllByRecursion (λ y. string_cmp k y ≡ Less) (keys_of es) → AllByRecursion (λ y. slice_cmp nat_cmp (string_bytes k) y ≡ Less) (names_of es)
below_names k [] h = tt
below_names k (e ∷ es) h = (h.0, below_names k es h.1)

-- the keys of a map ascend, so their bytes do
pub names-ascend : {X : Type 0} (es : List (String Global × X)) → IsStrictlySortedBy string_cmp (keys_of es) → IsAscending (names_of es)
unfolding IsStrictlySortedBy
names-ascend [] h = tt
names-ascend (e ∷ es) h = (below_names e.0 es h.0, names-ascend es h.1)

-- a name that is below those that follow is below one in their midst
pub below_middle : {X : Type 0} (l k : List ℕ) (x : X) (front more : List (List ℕ × X))
    → AllByRecursion (λ y. slice_cmp nat_cmp l y ≡ Less) (keys_of (front ++ (k, x) ∷ more)) → slice_cmp nat_cmp l k ≡ Less
below_middle l k x [] more h = h.0
below_middle l k x (e ∷ es) more h = below_middle l k x es more h.1

-- the same among names alone
pub above_middle : (first : List ℕ) (done : List (List ℕ)) (name : List ℕ) (more : List (List ℕ)) → AllByRecursion (λ y. slice_cmp nat_cmp first y ≡ Less) (done ++ name ∷ more) → slice_cmp nat_cmp first name ≡ Less
above_middle first [] name more h = h.0
above_middle first (x ∷ done) name more h = above_middle first done name more h.1

pub above : (first name : List ℕ) → slice_cmp nat_cmp first name ≡ Less → slice_cmp nat_cmp name first ≡ Greater
above first name h = nat_list_cmp_total.antisymm name first ∙ ap ordering_reverse h

-- a key above those before it goes last
pub put_last : {X : Type 0} (es : List (String Global × X)) (k : String Global) (x : X) (more : List (List ℕ)) → IsAscending (names_of es ++ string_bytes k ∷ more) → insert_entry string_cmp es k x ≡ es ++ (k, x) ∷ []
unfolding IsStrictlySortedBy
put_last [] k x more h = refl
put_last (e ∷ es) k x more h =
    rw (above (string_bytes e.0) (string_bytes k) (above_middle (string_bytes e.0) (names_of es) (string_bytes k) more h.0)) (ap (λ rest. e ∷ rest) (put_last es k x more h.1))
