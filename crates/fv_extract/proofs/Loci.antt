-- No two parts of a datum that can be written have one locus.
use Rattle.std.proofs.Common.{◌≡◌, ℕ, zero, suc, ◌+◌, ◌<◌, Some, slice_get, Result, Ok, Err, IfOk, List, [], ◌∷◌, ◌++◌, map as each, true, ◌&&◌, Ordering, Less, Equal, Greater, nat_cmp, refl, sym, ap, subst, ◌∙◌, arith}
use Rattle.std.proofs.lemmas.Bool.{and_parts}
use Rattle.std.proofs.lemmas.Cmp.{nat_list_cmp_total, tied_itself}
use Rattle.std.proofs.lemmas.List.{append_cancel_left}
use Rattle.std.proofs.lemmas.List.Elements.{All-from_recursion}
use Rattle.std.proofs.lemmas.List.Kept.{AllPairs-cons}
use Rattle.std.specs.Cmp.Lexicographic.{slice_cmp}
use Rattle.std.specs.List.{AllByRecursion, AllPairs, flat_map}
use Rattle.std.specs.Ordering.{is_lt}
use Rattle.fv_datum.specs.Data.{Data, list, map, optional, Items, no_items, item, Entries, no_entries, entry}
use Rattle.fv_datum.specs.Written.{is_text, key_of, below_first, keys_fit}
use Rattle.fv_bundle.specs.Writing.{IsWritten}
use Rattle.fv_extract.specs.Parts.{at_index, at_key, Locus, items_from, keys_in, values_in, inside, parts_below, parts_of, AreApart}
use Rattle.fv_extract.specs.Places.{PlaceStep, element, key, value, content}
use Rattle.fv_extract.proofs.Writable.{CanBeWritten, keys_of_written, inside_can}
use Rattle.fv_extract.specs.Pairs.{Pairwise, Differ}

-- neither locus leads on to a part that the other leads on to
abbrev pub Aside : Locus × Data → Locus × Data → Type 0
Aside p q = (x y : Locus) → p.0 ++ x ≡ q.0 ++ y → ⊥

module _ {X : Type 0} where
  all_append : (P : X → Type 0) (xs ys : List X) → AllByRecursion P xs → AllByRecursion P ys → AllByRecursion P (xs ++ ys)
  all_append P [] ys h k = k
  all_append P (x ∷ xs) ys h k = (h.0, all_append P xs ys h.1 k)

  pub pairwise_append : (R : X → X → Type 0) (xs ys : List X) → Pairwise R xs → Pairwise R ys → AllByRecursion (λ x. AllByRecursion (R x) ys) xs → Pairwise R (xs ++ ys)
  pairwise_append R [] ys h k cross = k
  pairwise_append R (x ∷ xs) ys h k cross = (all_append (R x) xs ys h.0 cross.0, pairwise_append R xs ys h.1 k cross.1)

  -- the same by places
  pub all_pairs : (R : X → X → Type 0) (xs : List X) → Pairwise R xs → AllPairs R xs
  all_pairs R [] h = λ i j d lt within. absurd (omega arith)
  all_pairs R (x ∷ xs) h = AllPairs-cons R x xs (All-from_recursion (R x) xs h.0) (all_pairs R xs h.1)

-- ---- one step inside

index_differs : (i j : ℕ) (x y : Locus) → i < j → at_index i ∷ x ≡ at_index j ∷ y → ⊥
index_differs i j x y lt e = let same : i ≡ j = cc in omega arith

items_after : (i j : ℕ) (d : Data) (ds : Items) → i < j → AllByRecursion (Aside (at_index i ∷ [], d)) (items_from j ds)
items_after i j d no_items lt = tt
items_after i j d (item e ds) lt = (λ x y is. index_differs i j x y lt is, items_after i (j + 1) d ds (omega arith))

items_aside : (i : ℕ) (ds : Items) → Pairwise Aside (items_from i ds)
items_aside i no_items = tt
items_aside i (item d ds) = (items_after i (i + 1) d ds (omega arith), items_aside (i + 1) ds)

less : (o : Ordering) → is_lt o ≡ true → o ≡ Less
less Less e = refl
less Equal e = cc
less Greater e = cc

less_tied : (o : Ordering) → o ≡ Less → o ≡ Equal → ⊥
less_tied o l e = cc

key_differs : (k l : List ℕ) (x y : Locus) → slice_cmp nat_cmp k l ≡ Less → at_key k ∷ x ≡ at_key l ∷ y → ⊥
key_differs k l x y lt e =
    let same : k ≡ l = cc in
    less_tied (slice_cmp nat_cmp k l) lt (ap (λ m. slice_cmp nat_cmp k m) (sym same) ∙ tied_itself nat_list_cmp_total k)

-- what is picked of the entries of a map, with their keys
abbrev picked : (Data → Data → Data) → Entries → List (Locus × Data)
picked f no_entries = []
picked f (entry k d es) = (at_key (key_of k) ∷ [], f k d) ∷ picked f es

-- a key is below all those of the entries
abbrev IsBelow : List ℕ → Entries → Type 0
IsBelow k no_entries = Unit {0}
IsBelow k (entry l d es) = (slice_cmp nat_cmp k (key_of l) ≡ Less) × IsBelow k es

below_more : (k l : List ℕ) (es : Entries) → slice_cmp nat_cmp k l ≡ Less → IsBelow l es → IsBelow k es
below_more k l no_entries lt h = tt
below_more k l (entry m d es) lt h = (nat_list_cmp_total.trans k l (key_of m) lt h.0, below_more k l es lt h.1)

below_all : (k d : Data) (es : Entries) → keys_fit (entry k d es) ≡ true → IsBelow (key_of k) es
below_all k d no_entries h = tt
below_all k d (entry l e es) h =
    let parts = and_parts (is_text k && below_first k (entry l e es)) (keys_fit (entry l e es)) h in
    let lt = less (slice_cmp nat_cmp (key_of k) (key_of l)) (and_parts (is_text k) (below_first k (entry l e es)) parts.0).1 in
    (lt, below_more (key_of k) (key_of l) es lt (below_all l e es parts.1))

picked_after : (f : Data → Data → Data) (k : List ℕ) (d : Data) (es : Entries) → IsBelow k es → AllByRecursion (Aside (at_key k ∷ [], d)) (picked f es)
picked_after f k d no_entries h = tt
picked_after f k d (entry l e es) h = (λ x y is. key_differs k (key_of l) x y h.0 is, picked_after f k d es h.1)

picked_aside : (f : Data → Data → Data) (es : Entries) → keys_fit es ≡ true → Pairwise Aside (picked f es)
picked_aside f no_entries h = tt
picked_aside f (entry k d es) h =
    let parts = and_parts (is_text k && below_first k es) (keys_fit es) h in
    (picked_after f (key_of k) (f k d) es (below_all k d es h), picked_aside f es parts.1)

keys_picked : (es : Entries) → picked (λ k d. k) es ≡ keys_in es
keys_picked no_entries = refl
keys_picked (entry k d es) = ap (λ ps. (at_key (key_of k) ∷ [], k) ∷ ps) (keys_picked es)

values_picked : (es : Entries) → picked (λ k d. d) es ≡ values_in es
values_picked no_entries = refl
values_picked (entry k d es) = ap (λ ps. (at_key (key_of k) ∷ [], d) ∷ ps) (values_picked es)

inside_aside : (step : PlaceStep) (d : Data) → IsWritten d → Pairwise Aside (inside step d)
inside_aside element (list ds) h = items_aside 0 ds
inside_aside element _ h = tt
inside_aside key (map es) h = subst (λ (ps : List (Locus × Data)). Pairwise Aside ps) (keys_picked es) (picked_aside (λ k d. k) es (keys_of_written es h))
inside_aside key _ h = tt
inside_aside value (map es) h = subst (λ (ps : List (Locus × Data)). Pairwise Aside ps) (values_picked es) (picked_aside (λ k d. d) es (keys_of_written es h))
inside_aside value _ h = tt
inside_aside content (optional d) h = (tt, tt)
inside_aside content _ h = tt

-- ---- further inside

beyond : (l : Locus) (d : Data) (q : Locus × Data) (ys : List (Locus × Data)) → ((y : Locus) → l ≡ q.0 ++ y → ⊥) → AllByRecursion (Differ (l, d)) (each (parts_below q.0) ys)
beyond l d q [] far = tt
beyond l d q (y ∷ ys) far = (far y.0, beyond l d q ys far)

after_below : (l : Locus) (x : Locus × Data) (xs : List (Locus × Data)) → AllByRecursion (Differ x) xs → AllByRecursion (Differ (parts_below l x)) (each (parts_below l) xs)
after_below l x [] h = tt
after_below l x (y ∷ ys) h = (λ e. h.0 (append_cancel_left l x.0 y.0 e), after_below l x ys h.1)

pairwise_below : (l : Locus) (xs : List (Locus × Data)) → Pairwise Differ xs → Pairwise Differ (each (parts_below l) xs)
pairwise_below l [] h = tt
pairwise_below l (x ∷ xs) h = (after_below l x xs h.0, pairwise_below l xs h.1)

-- what lies inside each of the parts that a step gives, by what lies further inside a datum
module _ (f : Data → List (Locus × Data)) where
  abbrev within : Locus × Data → List (Locus × Data)
  within p = each (parts_below p.0) (f p.1)

  far_off : (p : Locus × Data) (x : Locus × Data) (ps : List (Locus × Data)) → AllByRecursion (Aside p) ps → AllByRecursion (Differ (parts_below p.0 x)) (flat_map within ps)
  far_off p x [] h = tt
  far_off p x (q ∷ qs) h = all_append (Differ (parts_below p.0 x)) (within q) (flat_map within qs) (beyond (p.0 ++ x.0) x.1 q (f q.1) (λ y e. h.0 x.0 y e)) (far_off p x qs h.1)

  all_far : (p : Locus × Data) (xs ps : List (Locus × Data)) → AllByRecursion (Aside p) ps → AllByRecursion (λ x. AllByRecursion (Differ x) (flat_map within ps)) (each (parts_below p.0) xs)
  all_far p [] ps h = tt
  all_far p (x ∷ xs) ps h = (far_off p x ps h, all_far p xs ps h)

  within_differ : ((d : Data) → IsWritten d → Pairwise Differ (f d)) → (ps : List (Locus × Data)) → Pairwise Aside ps → AllByRecursion CanBeWritten ps → Pairwise Differ (flat_map within ps)
  within_differ each_differ [] aside can = tt
  within_differ each_differ (p ∷ ps) aside can =
      pairwise_append Differ (within p) (flat_map within ps) (pairwise_below p.0 (f p.1) (each_differ p.1 can.0)) (within_differ each_differ ps aside.1 can.1) (all_far p (f p.1) ps aside.0)

pub parts_differ : (steps : List PlaceStep) (d : Data) → IsWritten d → Pairwise Differ (parts_of steps d)
parts_differ [] d h = (tt, tt)
parts_differ (step ∷ steps) d h = within_differ (parts_of steps) (λ e can. parts_differ steps e can) (inside step d) (inside_aside step d h) (inside_can step d h)

-- no two parts of a datum that can be written have one locus
pub loci_apart : (steps : List PlaceStep) (d : Data) → IsWritten d → AreApart (parts_of steps d)
loci_apart steps d h = all_pairs Differ (parts_of steps d) (parts_differ steps d h)

-- ---- the fields of an object

pub field_written : (fs : List (List ℕ × Data)) (i : ℕ) (f : List ℕ × Data) → AllByRecursion (λ g. IsWritten g.1) fs → Some f ≡ slice_get fs i → IsWritten f.1
field_written [] i f all e = cc
field_written (g ∷ fs) zero f all e = let same : g ≡ f = cc in subst (λ (h : List ℕ × Data). IsWritten h.1) same all.0
field_written (g ∷ fs) (suc i) f all e = field_written fs i f all.1 e

-- parts that were found have loci of their own
pub found_apart : {E X : Type 0} (r : Result X E) (f : X → List (Locus × Data)) (steps : List PlaceStep) (d : Data) → IsWritten d → IfOk r (λ x. f x ≡ parts_of steps d) → IfOk r (λ x. AreApart (f x))
found_apart (Ok x) f steps d can is = subst AreApart (sym is) (loci_apart steps d can)
found_apart (Err e) f steps d can is = tt
