-- Attributes that are put into a map.
use Rattle.std.proofs.Common.{◌≡◌, ℕ, List, [], ◌∷◌, ◌++◌, map, String, Less, Greater, string_bytes, string_cmp, nat_cmp, refl, sym, ap, ◌∙◌, append_assoc}
use Rattle.std.specs.declared.alloc.Global.{Global}
use Rattle.std.specs.BTreeMap.{insert_entry}
use Rattle.std.specs.Cmp.Lexicographic.{slice_cmp}
use Rattle.std.specs.List.{AllByRecursion}
use Rattle.std.specs.List.Sorted.{IsStrictlySortedBy}
use Rattle.std.specs.Map.{keys_of}
use Rattle.std.specs.Ordering.{ordering_reverse}
use Rattle.std.proofs.lemmas.Cmp.{nat_list_cmp_total}
use Rattle.std.proofs.lemmas.List.{map-append}
use Rattle.fv_datum.proofs.Maps.{seen, put_seen}

-- the names of entries
abbrev pub names_of : {X : Type 0} → List (List ℕ × X) → List (List ℕ)
names_of = map (λ e. e.0)

module _ {X Y : Type 0} (view : X → Y) where
  below_names : (k : String Global) (es : List (String Global × X)) → AllByRecursion (λ y. string_cmp k y ≡ Less) (keys_of es) → AllByRecursion (λ y. slice_cmp nat_cmp (string_bytes k) y ≡ Less) (names_of (map (seen view) es))
  below_names k [] h = tt
  below_names k (e ∷ es) h = (h.0, below_names k es h.1)

  -- the keys of a map ascend, so their bytes do
  pub names-ascend : (es : List (String Global × X)) → IsStrictlySortedBy string_cmp (keys_of es) → IsStrictlySortedBy (slice_cmp nat_cmp) (names_of (map (seen view) es))
  unfolding IsStrictlySortedBy
  names-ascend [] h = tt
  names-ascend (e ∷ es) h = (below_names e.0 es h.0, names-ascend es h.1)

above_middle : (first : List ℕ) (done : List (List ℕ)) (name : List ℕ) (more : List (List ℕ)) → AllByRecursion (λ y. slice_cmp nat_cmp first y ≡ Less) (done ++ name ∷ more) → slice_cmp nat_cmp first name ≡ Less
above_middle first [] name more h = h.0
above_middle first (x ∷ done) name more h = above_middle first done name more h.1

above : (first name : List ℕ) → slice_cmp nat_cmp first name ≡ Less → slice_cmp nat_cmp name first ≡ Greater
above first name h = nat_list_cmp_total.antisymm name first ∙ ap ordering_reverse h

-- a name above those before it goes last
pub put_last : {Y : Type 0} (es : List (List ℕ × Y)) (name : List ℕ) (y : Y) (more : List (List ℕ)) → IsStrictlySortedBy (slice_cmp nat_cmp) (names_of es ++ name ∷ more)
    → insert_entry (slice_cmp nat_cmp) es name y ≡ es ++ (name, y) ∷ []
unfolding IsStrictlySortedBy
put_last [] name y more h = refl
put_last (e ∷ es) name y more h = rw (above e.0 name (above_middle e.0 (names_of es) name more h.0)) (ap (λ rest. e ∷ rest) (put_last es name y more h.1))

-- one entry more of a map is copied
pub copied_more : {X Y : Type 0} (view : X → Y) (all it rest copies new : List (String Global × X)) (k key : String Global) (x v : X)
    → IsStrictlySortedBy string_cmp (keys_of all) → it ≡ (k, x) ∷ rest → string_bytes key ≡ string_bytes k → view v ≡ view x → new ≡ insert_entry string_cmp copies key v
    → map (seen view) copies ++ map (seen view) it ≡ map (seen view) all → map (seen view) new ++ map (seen view) rest ≡ map (seen view) all
copied_more {X} {Y} view all it rest copies new k key x v sorted steps same again put done =
    let whole : map (seen view) copies ++ (string_bytes k, view x) ∷ map (seen view) rest ≡ map (seen view) all =
    ap (λ es. map (seen view) copies ++ map (seen view) es) (sym steps) ∙ done in
    let names : names_of (map (seen view) copies) ++ string_bytes k ∷ names_of (map (seen view) rest) ≡ names_of (map (seen view) all) =
    sym (map-append (λ (e : List ℕ × Y). e.0) (map (seen view) copies) ((string_bytes k, view x) ∷ map (seen view) rest)) ∙ ap names_of whole in
    let ascends : IsStrictlySortedBy (slice_cmp nat_cmp) (names_of (map (seen view) copies) ++ string_bytes k ∷ names_of (map (seen view) rest)) = rw names (names-ascend view all sorted) in
    let last : map (seen view) new ≡ map (seen view) copies ++ (string_bytes k, view x) ∷ [] =
    ap (map (seen view)) put ∙ put_seen view copies key v ∙ ap (λ n. insert_entry (slice_cmp nat_cmp) (map (seen view) copies) n (view v)) same
    ∙ ap (insert_entry (slice_cmp nat_cmp) (map (seen view) copies) (string_bytes k)) again
    ∙ put_last (map (seen view) copies) (string_bytes k) (view x) (names_of (map (seen view) rest)) ascends in
    ap (λ es. es ++ map (seen view) rest) last ∙ append_assoc (map (seen view) copies) ((string_bytes k, view x) ∷ []) (map (seen view) rest) ∙ whole
