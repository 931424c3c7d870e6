-- What the tests of what is declared tell.
use Rattle.std.proofs.Common.{◌≡◌, inl, inr, ℕ, suc, ℤ, pos, negsuc, ◌≤◌, ◌^◌, ◌↔◌, ◌&&◌, List, [], ◌∷◌, map, length, Bool, true, false, nat_le, Option, Some, None, Ordering, Less, Equal, Greater, nat_cmp, bytes_eq, FitsSigned, refl, sym, ap}
use Rattle.std.specs.Int.{w64}
use Rattle.std.specs.List.{list_all, AllByRecursion}
use Rattle.std.specs.List.Sorted.{IsStrictlySortedBy}
use Rattle.std.specs.Map.{keys_of}
use Rattle.std.specs.Option.{option_map_or}
use Rattle.std.specs.Ordering.{is_lt}
use Rattle.std.specs.Cmp.Lexicographic.{slice_cmp}
use Rattle.std.proofs.lemmas.Bool.{leb-true, le-leb, ltb-true, lt-ltb, and_parts}
use Rattle.std.proofs.lemmas.Cmp.{nat_list_cmp_total}
use Rattle.std.proofs.lemmas.Slice.Eq.{bytes_eq-Decides}
use Rattle.fv_datum.specs.Data as datum
use Rattle.fv_datum.specs.Data.{Data, Items, no_items, item, Entries, no_entries, entry, items_of, entries_of}
use Rattle.fv_datum.specs.Ascending.{IsAscending}
use Rattle.fv_datum.specs.Json.{is_of_64_bits}
use Rattle.fv_datum.specs.Lookup.{at_name}
use Rattle.fv_datum.specs.Name.{names}
use Rattle.fv_datum.specs.Written.{keys_fit, key_of, is_text, below_first}
use Rattle.fv_bundle.specs.Held.{target}
use Rattle.fv_bundle.specs.Fits.{Referring, Fits}
use Rattle.fv_bundle.specs.Types.{TypeUse, texts, integers, decimals, booleans, dates, instants, references, lists, maps, optionals, DeclaredFields, Declared}
use Rattle.fv_bundle.specs.Bundles.{Thing, Things, Bundled}
use Rattle.fv_bundle.specs.Typing.{Naming, naming, items_count, entries_count, fits_use, items_fit, entries_fit, fields_fit, thing_fits, ascend_behind, is_named_thing, is_well_typed}
use Rattle.fv_bundle.specs.WellTyped.{NamesObject, AnyName, FieldsAre, FitsType, IsOfType, IsWellTyped}

-- ---- tests

both : (a b : Bool) → a ≡ true → b ≡ true → (a && b) ≡ true
both a b p q = rw (p, q) refl

fits_64 : (z : ℤ) → is_of_64_bits z ≡ true → FitsSigned w64 z
fits_64 (pos n) e = record { sfits = ltb-true n (2 ^ 63) e }
fits_64 (negsuc n) e = record { sfits = ltb-true n (2 ^ 63) e }

pub of_64 : (z : ℤ) → FitsSigned w64 z → is_of_64_bits z ≡ true
of_64 (pos n) fits = lt-ltb n (2 ^ 63) fits.sfits
of_64 (negsuc n) fits = lt-ltb n (2 ^ 63) fits.sfits

-- ---- names in order

less : (o : Ordering) → is_lt o ≡ true → o ≡ Less
less Less e = refl
less Equal e = cc
less Greater e = cc

all_above : (k l : List ℕ) (ns : List (List ℕ)) → slice_cmp nat_cmp k l ≡ Less → AllByRecursion (λ n. slice_cmp nat_cmp l n ≡ Less) ns → AllByRecursion (λ n. slice_cmp nat_cmp k n ≡ Less) ns
all_above k l [] below all = tt
all_above k l (n ∷ ns) below all = (nat_list_cmp_total.trans k l n below all.0, all_above k l ns below all.1)

so_behind : (l : List ℕ) (ns : List (List ℕ)) → ascend_behind (Some l) ns ≡ true → IsAscending (l ∷ ns)
unfolding IsStrictlySortedBy
so_behind l [] e = (tt, tt)
so_behind l (n ∷ ns) e =
    let parts = and_parts _ _ e in
    let below : slice_cmp nat_cmp l n ≡ Less = less _ parts.0 in
    let more = so_behind n ns parts.1 in
    ((below, all_above l n ns below more.0), more)

ascends_so : (ns : List (List ℕ)) → ascend_behind None ns ≡ true → IsAscending ns
unfolding IsStrictlySortedBy
ascends_so [] e = tt
ascends_so (n ∷ ns) e = so_behind n ns e

told_behind : (l : List ℕ) (ns : List (List ℕ)) → AllByRecursion (λ n. slice_cmp nat_cmp l n ≡ Less) ns → IsAscending ns → ascend_behind (Some l) ns ≡ true
unfolding IsStrictlySortedBy
told_behind l [] above ordered = refl
told_behind l (n ∷ ns) above ordered = both _ _ (rw above.0 refl) (told_behind n ns ordered.0 ordered.1)

ascends_told : (ns : List (List ℕ)) → IsAscending ns → ascend_behind None ns ≡ true
unfolding IsStrictlySortedBy
ascends_told [] ordered = refl
ascends_told (n ∷ ns) ordered = told_behind n ns ordered.0 ordered.1

-- ---- items and entries as lists

abbrev items_list : Items → List Data
items_list no_items = []
items_list (item d ds) = d ∷ items_list ds

items_back : (ds : Items) → items_of (items_list ds) ≡ ds
items_back no_items = refl
items_back (item d ds) = ap (item d) (items_back ds)

items_length : (ds : Items) → length (items_list ds) ≡ items_count ds
items_length no_items = refl
items_length (item d ds) = ap suc (items_length ds)

pub items_counted : (ds : List Data) → items_count (items_of ds) ≡ length ds
items_counted [] = refl
items_counted (d ∷ ds) = ap suc (items_counted ds)

abbrev entries_list : Entries → List (List ℕ × Data)
entries_list no_entries = []
entries_list (entry k d es) = (key_of k, d) ∷ entries_list es

entries_length : (es : Entries) → length (entries_list es) ≡ entries_count es
entries_length no_entries = refl
entries_length (entry k d es) = ap suc (entries_length es)

-- entries by their keys' texts
abbrev keyed : List (List ℕ × Data) → List (Data × Data)
keyed = map (λ e. (datum.text e.0, e.1))

entries_counted : (es : List (List ℕ × Data)) → entries_count (entries_of (keyed es)) ≡ length es
entries_counted [] = refl
entries_counted (e ∷ es) = ap suc (entries_counted es)

pub pairs_counted : (es : List (Data × Data)) → entries_count (entries_of es) ≡ length es
pairs_counted [] = refl
pairs_counted (e ∷ es) = ap suc (pairs_counted es)

text_key : (k : Data) → is_text k ≡ true → datum.text (key_of k) ≡ k
text_key (datum.text s) e = refl
text_key _ e = cc

entries_back : (es : Entries) → keys_fit es ≡ true → entries_of (keyed (entries_list es)) ≡ es
entries_back no_entries e = refl
entries_back (entry k d es) e =
    let parts = and_parts (is_text k && below_first k es) _ e in
    let key = and_parts (is_text k) _ parts.0 in
    rw (text_key k key.0) (ap (entry k d) (entries_back es parts.1))

keys_behind : (k : Data) (es : Entries) → below_first k es ≡ true → keys_fit es ≡ true → ascend_behind (Some (key_of k)) (keys_of (entries_list es)) ≡ true
keys_behind k no_entries below e = refl
keys_behind k (entry l d es) below e =
    let parts = and_parts (is_text l && below_first l es) _ e in
    let key = and_parts (is_text l) _ parts.0 in
    both _ _ below (keys_behind l es key.1 parts.1)

keys_ascend : (es : Entries) → keys_fit es ≡ true → IsAscending (keys_of (entries_list es))
unfolding IsStrictlySortedBy
keys_ascend no_entries e = tt
keys_ascend (entry k d es) e =
    let parts = and_parts (is_text k && below_first k es) _ e in
    let key = and_parts (is_text k) _ parts.0 in
    so_behind (key_of k) (keys_of (entries_list es)) (keys_behind k es key.1 parts.1)

keys_told : (es : List (List ℕ × Data)) → IsAscending (keys_of es) → keys_fit (entries_of (keyed es)) ≡ true
unfolding IsStrictlySortedBy
keys_told [] ordered = refl
keys_told (e ∷ []) ordered = refl
keys_told (e ∷ f ∷ es) ordered = both _ _ (rw ordered.0.0 refl) (keys_told (f ∷ es) ordered.1)

-- ---- what names tell

-- a test of names tells these
record Tells (N : Naming) (Named : Referring) : Type 0 where
  so : (type name : List ℕ) → N type name ≡ true → Named type name
  told : (type name : List ℕ) → Named type name → N type name ≡ true

any_told : Tells (naming None) AnyName
any_told = record { so = λ type name e. tt; told = λ type name any. refl }

object_so : (o : Option Thing) (os : Things) (type name : List ℕ) → at_name name os ≡ o → option_map_or (λ t. bytes_eq t.type_name type) o false ≡ true → NamesObject os type name
object_so (Some t) os type name is e = (t, is, (bytes_eq-Decides t.type_name type).0 e)
object_so None os type name is e = cc

objects_told : (os : Things) → Tells (naming (Some os)) (NamesObject os)
objects_told os = record {
  so = λ type name e. object_so (at_name name os) os type name refl e;
  told = λ type name of. rw of.1 ((bytes_eq-Decides of.0.type_name type).1 of.2);
}

module _ (N : Naming) (Named : Referring) (tells : Tells N Named) where
  -- ---- a datum

  items_told : (u : TypeUse) (ds : List Data) → ((d : Data) → Fits Named u d → fits_use N u d ≡ true) → AllByRecursion (Fits Named u) ds → items_fit N u (items_of ds) ≡ true
  items_told u [] turn all = refl
  items_told u (d ∷ ds) turn all = both _ _ (turn d all.0) (items_told u ds turn all.1)

  entries_told : (u : TypeUse) (es : List (List ℕ × Data)) → ((d : Data) → Fits Named u d → fits_use N u d ≡ true) → AllByRecursion (λ e. (length e.0 ≤ 65536) × Fits Named u e.1) es → entries_fit N u (entries_of (keyed es)) ≡ true
  entries_told u [] turn all = refl
  entries_told u (e ∷ es) turn all = both _ _ (le-leb (length e.0) 65536 all.0.0) (both _ _ (turn e.1 all.0.1) (entries_told u es turn all.1))

  fits_told : (u : TypeUse) (d : Data) → Fits Named u d → fits_use N u d ≡ true
  fits_told u d (inl is) = rw is refl
  fits_told texts d (inr (s, short, is)) = rw is (le-leb (length s) 65536 short)
  fits_told integers d (inr (n, range, is)) = rw is (of_64 n range)
  fits_told decimals d (inr (s, passes, is)) = rw is passes
  fits_told booleans d (inr (b, is)) = rw is refl
  fits_told dates d (inr (s, passes, is)) = rw is passes
  fits_told instants d (inr (n, passes, is)) = rw is passes
  fits_told (references type) d (inr (name, named, refers, is)) = rw is (both _ _ named (tells.told type name refers))
  fits_told (lists u) d (inr (ds, few, all, is)) =
      let count : nat_le (items_count (items_of ds)) 65536 ≡ true = rw (items_counted ds) (le-leb (length ds) 65536 few) in
      rw is (both _ _ count (items_told u ds (λ x fits. fits_told u x fits) all))
  fits_told (maps u) d (inr (es, few, ordered, all, is)) =
      let count : nat_le (entries_count (entries_of (keyed es))) 65536 ≡ true = rw (entries_counted es) (le-leb (length es) 65536 few) in
      rw is (both _ _ count (both _ _ (keys_told es ordered) (entries_told u es (λ x fits. fits_told u x fits) all)))
  fits_told (optionals u) d (inr (held, fits, is)) = rw is (fits_told u held fits)

  items_so : (u : TypeUse) (ds : Items) → ((d : Data) → fits_use N u d ≡ true → Fits Named u d) → items_fit N u ds ≡ true → AllByRecursion (Fits Named u) (items_list ds)
  items_so u no_items turn e = tt
  items_so u (item d ds) turn e = let parts = and_parts _ _ e in (turn d parts.0, items_so u ds turn parts.1)

  entries_so : (u : TypeUse) (es : Entries) → ((d : Data) → fits_use N u d ≡ true → Fits Named u d) → entries_fit N u es ≡ true → AllByRecursion (λ e. (length e.0 ≤ 65536) × Fits Named u e.1) (entries_list es)
  entries_so u no_entries turn e = tt
  entries_so u (entry k d es) turn e =
      let parts = and_parts _ _ e in
      let more = and_parts _ _ parts.1 in
      ((leb-true (length (key_of k)) 65536 parts.0, turn d more.0), entries_so u es turn more.1)

  reference_so : (u : TypeUse) (name : List ℕ) → option_map_or (λ type. names name && N type name) (target u) false ≡ true → Fits Named u (datum.reference name)
  reference_so (references type) name e =
      let parts = and_parts (names name) _ e in
      inr (name, parts.0, tells.so type name parts.1, refl)
  reference_so _ name e = cc

  fits_so : (u : TypeUse) (d : Data) → fits_use N u d ≡ true → Fits Named u d
  fits_so u datum.null e = inl refl
  fits_so texts (datum.text s) e = inr (s, leb-true (length s) 65536 e, refl)
  fits_so integers (datum.integer n) e = inr (n, fits_64 n e, refl)
  fits_so decimals (datum.decimal s) e = inr (s, e, refl)
  fits_so booleans (datum.boolean b) e = inr (b, refl)
  fits_so dates (datum.date s) e = inr (s, e, refl)
  fits_so instants (datum.instant n) e = inr (n, e, refl)
  fits_so u (datum.reference name) e = reference_so u name e
  fits_so (lists u) (datum.list ds) e =
      let parts = and_parts _ _ e in
      let few : length (items_list ds) ≤ 65536 = rw (items_length ds) (leb-true (items_count ds) 65536 parts.0) in
      inr (items_list ds, few, items_so u ds (λ x h. fits_so u x h) parts.1, ap datum.list (sym (items_back ds)))
  fits_so (maps u) (datum.map es) e =
      let parts = and_parts _ _ e in
      let more = and_parts (keys_fit es) _ parts.1 in
      let few : length (entries_list es) ≤ 65536 = rw (entries_length es) (leb-true (entries_count es) 65536 parts.0) in
      inr (entries_list es, few, keys_ascend es more.0, entries_so u es (λ x h. fits_so u x h) more.1, ap datum.map (sym (entries_back es more.0)))
  fits_so (optionals u) (datum.optional d) e = inr (d, fits_so u d e, refl)
  fits_so _ _ e = cc

  -- ---- an object

  fields_told : (ds : DeclaredFields) (fs : List (List ℕ × Data)) → FieldsAre Named ds fs → fields_fit N ds fs ≡ true
  fields_told [] [] fit = refl
  fields_told (d ∷ ds) (f ∷ fs) fit = both _ _ ((bytes_eq-Decides f.0 d.0).1 fit.0.0) (both _ _ (fits_told d.1 f.1 fit.0.1) (fields_told ds fs fit.1))
  fields_told [] (f ∷ fs) fit = absurd fit
  fields_told (d ∷ ds) [] fit = absurd fit

  fields_so : (ds : DeclaredFields) (fs : List (List ℕ × Data)) → fields_fit N ds fs ≡ true → FieldsAre Named ds fs
  fields_so [] [] e = tt
  fields_so (d ∷ ds) (f ∷ fs) e =
      let parts = and_parts _ _ e in
      let more = and_parts _ _ parts.1 in
      (((bytes_eq-Decides f.0 d.0).0 parts.0, fits_so d.1 f.1 more.0), fields_so ds fs more.1)
  fields_so [] (f ∷ fs) e = cc
  fields_so (d ∷ ds) [] e = cc

-- ---- an object by itself

pub of_use : (u : TypeUse) (d : Data) → (fits_use (naming None) u d ≡ true) ↔ Fits AnyName u d
of_use u d = (fits_so (naming None) AnyName any_told u d, fits_told (naming None) AnyName any_told u d)

of_type_so : (ts : Declared) (t : Thing) (o : Option DeclaredFields) → at_name t.type_name ts ≡ o → option_map_or (λ ds. fields_fit (naming None) ds t.fields) o false ≡ true → IsOfType ts t
of_type_so ts t (Some ds) is e = record { fields = ds; declared = is; fit = fields_so (naming None) AnyName any_told ds t.fields e }
of_type_so ts t None is e = cc

pub of_type : (ts : Declared) (t : Thing) → (thing_fits (naming None) ts t ≡ true) ↔ IsOfType ts t
of_type ts t = (
  (λ e. of_type_so ts t (at_name t.type_name ts) refl e),
  (λ of. rw of.declared (fields_told (naming None) AnyName any_told of.fields t.fields of.fit)),
)

-- ---- a bundle

fits_type_so : (ts : Declared) (os : Things) (t : Thing) (o : Option DeclaredFields) → at_name t.type_name ts ≡ o → option_map_or (λ ds. fields_fit (naming (Some os)) ds t.fields) o false ≡ true → FitsType ts os t
fits_type_so ts os t (Some ds) is e = record { fields = ds; declared = is; fit = fields_so (naming (Some os)) (NamesObject os) (objects_told os) ds t.fields e }
fits_type_so ts os t None is e = cc

each_so : (ts : Declared) (all os : Things) → list_all (is_named_thing (naming (Some all)) ts) os ≡ true → AllByRecursion (λ o. names o.0 ≡ true) os × AllByRecursion (λ o. FitsType ts all o.1) os
each_so ts all [] e = (tt, tt)
each_so ts all (o ∷ os) e =
    let parts = and_parts (is_named_thing (naming (Some all)) ts o) _ e in
    let own = and_parts (names o.0) _ parts.0 in
    let more = each_so ts all os parts.1 in
    ((own.0, more.0), (fits_type_so ts all o.1 (at_name o.1.type_name ts) refl own.1, more.1))

each_told : (ts : Declared) (all os : Things) → AllByRecursion (λ o. names o.0 ≡ true) os → AllByRecursion (λ o. FitsType ts all o.1) os → list_all (is_named_thing (naming (Some all)) ts) os ≡ true
each_told ts all [] named typed = refl
each_told ts all (o ∷ os) named typed =
    let fits : thing_fits (naming (Some all)) ts o.1 ≡ true = rw typed.0.declared (fields_told (naming (Some all)) (NamesObject all) (objects_told all) typed.0.fields o.1.fields typed.0.fit) in
    both _ _ (both _ _ named.0 fits) (each_told ts all os named.1 typed.1)

pub well_typed : (ts : Declared) (b : Bundled) → (is_well_typed ts b ≡ true) ↔ IsWellTyped ts b
well_typed ts b = (
  (λ e.
      let first = and_parts _ _ e in
      let second = and_parts _ _ first.1 in
      let third = and_parts _ _ second.1 in
      let each = each_so ts b.objects b.objects third.1 in
      record { few = leb-true (length b.objects) 256 first.0; ascending = ascends_so (keys_of b.objects) third.0; named = each.0; rooted = second.0; typed = each.1 }),
  (λ is. both _ _ (le-leb (length b.objects) 256 is.few) (both _ _ is.rooted (both _ _ (ascends_told (keys_of b.objects) is.ascending) (each_told ts b.objects b.objects is.named is.typed)))),
)
