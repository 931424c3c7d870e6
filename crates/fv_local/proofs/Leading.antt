-- The loci of parts are those that the steps lead to.
use Rattle.std.proofs.Common.{◌≡◌, ℕ, ◌+◌, ◌^◌, List, [], ◌∷◌, ◌++◌, map as each, true, ◌&&◌, nat_lt, refl}
use Rattle.std.proofs.lemmas.Bool.{and_parts, and_from, lt-ltb}
use Rattle.std.specs.List.{AllByRecursion, flat_map}
use Rattle.fv_datum.specs.Data.{Data, text, list, map, optional, Items, no_items, item, Entries, no_entries, entry}
use Rattle.fv_datum.specs.Written.{is_text, key_of, below_first, keys_fit}
use Rattle.fv_extract.specs.Parts.{at_index, at_key, Locus, items_from, keys_in, values_in, inside, parts_below, parts_of}
use Rattle.fv_extract.specs.Places as to
use Rattle.fv_extract.proofs.Writable.{CanBeWritten, keys_of_written, inside_can}
use Rattle.fv_bundle.specs.Writing.{IsWritten}
use Rattle.fv_local.specs.Loci.{leads, IsIndexed, AreIndexed, EntriesIndexed}

-- the steps lead to a part
abbrev pub IsLedTo : List to.PlaceStep → Locus × Data → Type 0
IsLedTo steps p = leads steps p.0 ≡ true

module _ {X : Type 0} where
  pub all_append : (P : X → Type 0) (xs ys : List X) → AllByRecursion P xs → AllByRecursion P ys → AllByRecursion P (xs ++ ys)
  all_append P [] ys h k = k
  all_append P (x ∷ xs) ys h k = (h.0, all_append P xs ys h.1 k)

all_flat : {X Y : Type 0} (P : Y → Type 0) (f : X → List Y) (xs : List X) → AllByRecursion (λ x. AllByRecursion P (f x)) xs → AllByRecursion P (flat_map f xs)
all_flat P f [] h = tt
all_flat P f (x ∷ xs) h = all_append P (f x) (flat_map f xs) h.0 (all_flat P f xs h.1)

all_below : (P Q : Locus × Data → Type 0) (l : Locus) (ps : List (Locus × Data)) → ((p : Locus × Data) → P p → Q (parts_below l p)) → AllByRecursion P ps → AllByRecursion Q (each (parts_below l) ps)
all_below P Q l [] f h = tt
all_below P Q l (p ∷ ps) f h = (f p h.0, all_below P Q l ps f h.1)

-- nothing lies inside a key
none_in_key : (step : to.PlaceStep) (steps : List to.PlaceStep) (s : List ℕ) → parts_of (step ∷ steps) (text s) ≡ []
none_in_key to.element steps s = refl
none_in_key to.key steps s = refl
none_in_key to.value steps s = refl
none_in_key to.content steps s = refl

below_key : (steps : List to.PlaceStep) (k : Data) → is_text k ≡ true → AllByRecursion (IsLedTo (to.key ∷ steps)) (each (parts_below (at_key (key_of k) ∷ [])) (parts_of steps k))
below_key [] k h = (refl, tt)
below_key (step ∷ steps) (text s) h = rw (none_in_key step steps s) tt
below_key (step ∷ steps) _ h = cc

-- what the further steps lead to inside a datum
module _ (steps : List to.PlaceStep) (led : (d : Data) → IsWritten d → IsIndexed d → AllByRecursion (IsLedTo steps) (parts_of steps d)) where
  items_led : (i : ℕ) (ds : Items) → AllByRecursion CanBeWritten (items_from i ds) → AreIndexed i ds
      → AllByRecursion (λ p. AllByRecursion (IsLedTo (to.element ∷ steps)) (each (parts_below p.0) (parts_of steps p.1))) (items_from i ds)
  items_led i no_items can small = tt
  items_led i (item d ds) can small = (
    all_below (IsLedTo steps) (IsLedTo (to.element ∷ steps)) (at_index i ∷ []) (parts_of steps d) (λ p h. and_from (nat_lt i (2 ^ 32)) (leads steps p.0) (lt-ltb i (2 ^ 32) small.0) h) (led d can.0 small.1),
    items_led (i + 1) ds can.1 small.2,
  )

  keys_led : (es : Entries) → keys_fit es ≡ true → AllByRecursion (λ p. AllByRecursion (IsLedTo (to.key ∷ steps)) (each (parts_below p.0) (parts_of steps p.1))) (keys_in es)
  keys_led no_entries fit = tt
  keys_led (entry k d es) fit =
      let parts = and_parts (is_text k && below_first k es) (keys_fit es) fit in
      (below_key steps k (and_parts (is_text k) (below_first k es) parts.0).0, keys_led es parts.1)

  values_led : (es : Entries) → AllByRecursion CanBeWritten (values_in es) → EntriesIndexed es
      → AllByRecursion (λ p. AllByRecursion (IsLedTo (to.value ∷ steps)) (each (parts_below p.0) (parts_of steps p.1))) (values_in es)
  values_led no_entries can small = tt
  values_led (entry k d es) can small = (
    all_below (IsLedTo steps) (IsLedTo (to.value ∷ steps)) (at_key (key_of k) ∷ []) (parts_of steps d) (λ p h. h) (led d can.0 small.1),
    values_led es can.1 small.2,
  )

  inside_led : (step : to.PlaceStep) (d : Data) → IsWritten d → IsIndexed d
      → AllByRecursion (λ p. AllByRecursion (IsLedTo (step ∷ steps)) (each (parts_below p.0) (parts_of steps p.1))) (inside step d)
  inside_led to.element (list ds) can small = items_led 0 ds (inside_can to.element (list ds) can) small
  inside_led to.element _ can small = tt
  inside_led to.key (map es) can small = keys_led es (keys_of_written es can)
  inside_led to.key _ can small = tt
  inside_led to.value (map es) can small = values_led es (inside_can to.value (map es) can) small
  inside_led to.value _ can small = tt
  inside_led to.content (optional d) can small =
      (all_below (IsLedTo steps) (IsLedTo (to.content ∷ steps)) [] (parts_of steps d) (λ p h. h) (led d (inside_can to.content (optional d) can).0 small), tt)
  inside_led to.content _ can small = tt

-- the steps lead to the parts of a datum that can be written
pub parts_led : (steps : List to.PlaceStep) (d : Data) → IsWritten d → IsIndexed d → AllByRecursion (IsLedTo steps) (parts_of steps d)
parts_led [] d can small = (refl, tt)
parts_led (step ∷ steps) d can small =
    all_flat (IsLedTo (step ∷ steps)) (λ p. each (parts_below p.0) (parts_of steps p.1)) (inside step d) (inside_led steps (λ e c s. parts_led steps e c s) step d can small)
