-- Maps from names, as lists that ascend.
use Rattle.std.proofs.Common.{◌≡◌, ℕ, List, [], ◌∷◌, map, Bool, true, false, cond, Ordering, Less, Equal, Greater, Option, Some, String, string_bytes, string_cmp, nat_cmp, bytes_eq, refl, sym, ap, subst, ◌∙◌, T}
use Rattle.std.specs.declared.alloc.Global.{Global}
use Rattle.std.specs.BTreeMap.{insert_entry}
use Rattle.std.specs.Cmp.Lexicographic.{slice_cmp}
use Rattle.std.specs.FinMap.{find, put, is_sorted, nat_cmp-IsAntisymmetric, slice_cmp-IsAntisymmetric}
use Rattle.std.specs.FinMap.Entries.{by_order, below_all, find-put, is_sorted-put, same_entries}
use Rattle.std.specs.List.{AllByRecursion}
use Rattle.std.specs.List.Sorted.{IsStrictlySortedBy}
use Rattle.std.specs.Map.{keys_of}
use Rattle.std.specs.Ordering.{match_ordering}
use Rattle.std.proofs.lemmas.Cmp.{nat_list_cmp_total}
use Rattle.std.proofs.lemmas.Map.Keys.{sorted_head, sorted_tail}
use Rattle.std.proofs.lemmas.Map.Text.{is_eq-slice_cmp}
use Rattle.fv_datum.specs.Attributes.{AttributeValue, Attributes}
use Rattle.fv_datum.specs.Lookup.{at_name}
use Rattle.fv_datum.specs.Maps.{ascends, IsMapOf}

-- the order of names
abbrev names : List ℕ → List ℕ → Ordering
names = slice_cmp nat_cmp

-- ---- lists with names

module _ {Y : Type 0} where
  find_is_at : (q : List ℕ) (es : List (List ℕ × Y)) → find names q es ≡ at_name q es
  find_is_at q [] = refl
  find_is_at q (e ∷ es) = ap (λ b. cond b (Some e.1) (find names q es)) (is_eq-slice_cmp q e.0) ∙ ap (cond (bytes_eq q e.0) (Some e.1)) (find_is_at q es)

  insert_is_put : (es : List (List ℕ × Y)) (k : List ℕ) (v : Y) → insert_entry names es k v ≡ put names k v es
  insert_is_put [] k v = refl
  insert_is_put (e ∷ es) k v = go (names k e.0) (insert_is_put es k v)
    where
      go : (o : Ordering) → insert_entry names es k v ≡ put names k v es
          → match_ordering o ((k, v) ∷ e ∷ es) ((e.0, v) ∷ es) (e ∷ insert_entry names es k v) ≡ by_order o ((k, v) ∷ e ∷ es) ((e.0, v) ∷ es) (e ∷ put names k v es)
      go Less ih = refl
      go Equal ih = refl
      go Greater ih = ap (λ rest. e ∷ rest) ih

  -- what stands at a name where a value was put in
  pub at_insert : (es : List (List ℕ × Y)) (k : List ℕ) (v : Y) (q : List ℕ) → at_name q (insert_entry names es k v) ≡ cond (bytes_eq q k) (Some v) (at_name q es)
  at_insert es k v q =
      ap (at_name q) (insert_is_put es k v) ∙ sym (find_is_at q (put names k v es)) ∙ find-put names nat_list_cmp_total q k v es
      ∙ ap (λ b. cond b (Some v) (find names q es)) (is_eq-slice_cmp q k) ∙ ap (cond (bytes_eq q k) (Some v)) (find_is_at q es)

true_T : (b : Bool) → b ≡ true → T b
true_T b e = subst T (sym e) tt

T_true : (b : Bool) → T b → b ≡ true
T_true true h = refl
T_true false h = absurd h

-- attributes that ascend do so with a value put in
pub ascends-insert : (es : Attributes) (k : List ℕ) (v : AttributeValue) → ascends es ≡ true → ascends (insert_entry names es k v) ≡ true
ascends-insert es k v h = ap ascends (insert_is_put es k v) ∙ T_true _ (is_sorted-put names nat_list_cmp_total k v es (true_T _ h))

-- there is one map with these values
pub same_map : (value : List ℕ → Option AttributeValue) (a b : Attributes) → IsMapOf value a → IsMapOf value b → a ≡ b
same_map value a b x y =
    same_entries names nat_list_cmp_total (slice_cmp-IsAntisymmetric nat_cmp-IsAntisymmetric) a b (true_T _ x.ascending) (true_T _ y.ascending)
    (λ q. find_is_at q a ∙ x.each q ∙ sym (y.each q) ∙ sym (find_is_at q b))

-- ---- maps of the code

module _ {K X Y : Type 0} (bytes : K → List ℕ) (view : X → Y) where
  -- an entry by its key's bytes
  abbrev pub keyed : K × X → List ℕ × Y
  keyed e = (bytes e.0, view e.1)

  -- what is put into a map by its keys' bytes is put into what the map is seen as
  pub put_keyed : (es : List (K × X)) (k : K) (x : X) → map keyed (insert_entry (λ a b. names (bytes a) (bytes b)) es k x) ≡ insert_entry names (map keyed es) (bytes k) (view x)
  put_keyed [] k x = refl
  put_keyed (e ∷ es) k x = go (names (bytes k) (bytes e.0)) (put_keyed es k x)
    where
      go : (o : Ordering) → map keyed (insert_entry (λ a b. names (bytes a) (bytes b)) es k x) ≡ insert_entry names (map keyed es) (bytes k) (view x)
          → map keyed (match_ordering o ((k, x) ∷ e ∷ es) ((e.0, x) ∷ es) (e ∷ insert_entry (λ a b. names (bytes a) (bytes b)) es k x))
          ≡ match_ordering o (keyed (k, x) ∷ map keyed (e ∷ es)) ((bytes e.0, view x) ∷ map keyed es) (keyed e ∷ insert_entry names (map keyed es) (bytes k) (view x))
      go Less ih = refl
      go Equal ih = refl
      go Greater ih = ap (λ rest. keyed e ∷ rest) ih

module _ {X Y : Type 0} (view : X → Y) where
  -- an entry as it is seen
  abbrev pub seen : String Global × X → List ℕ × Y
  seen e = (string_bytes e.0, view e.1)

  -- what is put into a map is put into what it is seen as
  pub put_seen : (es : List (String Global × X)) (k : String Global) (x : X) → map seen (insert_entry string_cmp es k x) ≡ insert_entry names (map seen es) (string_bytes k) (view x)
  put_seen es k x = put_keyed (λ (t : String Global). string_bytes t) view es k x

  below_seen : (k : String Global) (es : List (String Global × X)) → AllByRecursion (λ y. string_cmp k y ≡ Less) (keys_of es) → below_all names (string_bytes k) (map seen es) ≡ true
  below_seen k [] h = refl
  below_seen k (e ∷ es) h = rw (h.0, below_seen k es h.1) refl

  -- the keys of a map ascend, so their bytes do
  pub seen-ascends : (es : List (String Global × X)) → IsStrictlySortedBy string_cmp (keys_of es) → is_sorted names (map seen es) ≡ true
  seen-ascends [] h = refl
  seen-ascends (e ∷ es) h = rw (below_seen e.0 es (sorted_head string_cmp e.0 (keys_of es) h), seen-ascends es (sorted_tail string_cmp e.0 (keys_of es) h)) refl
