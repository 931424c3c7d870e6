-- What can be written has parts that can be written.
use Rattle.std.proofs.Common.{◌≡◌, ℕ, ◌+◌, List, [], ◌∷◌, ◌++◌, Bool, true, false, cond, ◌&&◌, is_some, Option, Some, None, option_map, option_and_then, refl}
use Rattle.std.proofs.lemmas.Bool.{and_parts}
use Rattle.std.specs.List.{AllByRecursion}
use Rattle.serde_json.specs.Data as json
use Rattle.fv_datum.specs.Data.{Data, null, text, integer, decimal, boolean, date, instant, reference, list, map, optional, Items, no_items, item, Entries, no_entries, entry}
use Rattle.fv_datum.specs.Written.{is_text, key_of, below_first, keys_fit, written, items_written, entries_written}
use Rattle.fv_bundle.specs.Writing.{IsWritten}
use Rattle.fv_extract.specs.Parts.{Locus, items_from, keys_in, values_in, inside}
use Rattle.fv_extract.specs.Places.{PlaceStep, element, key, value, content}

-- a part can be written
abbrev pub CanBeWritten : Locus × Data → Type 0
CanBeWritten p = IsWritten p.1

then_parts : {X Y : Type 0} (f : X → Option Y) (o : Option X) → is_some (option_and_then f o) ≡ true → (is_some o ≡ true) × ((x : X) × (is_some (f x) ≡ true))
then_parts f (Some x) h = (refl, (x, h))
then_parts f None h = cc

map_part : {X Y : Type 0} (f : X → Y) (o : Option X) → is_some (option_map f o) ≡ true → is_some o ≡ true
map_part f (Some x) h = refl
map_part f None h = cc

if_some : {X : Type 0} (b : Bool) (o : Option X) → is_some (cond b o None) ≡ true → (b ≡ true) × (is_some o ≡ true)
if_some true o h = (refl, h)
if_some false o h = cc

items_can : (done : List json.Data) (i : ℕ) (ds : Items) → is_some (items_written done ds) ≡ true → AllByRecursion CanBeWritten (items_from i ds)
items_can done i no_items h = tt
items_can done i (item d ds) h =
    let parts = then_parts (λ j. items_written (done ++ j ∷ []) ds) (written d) h in
    (parts.0, items_can (done ++ parts.1.0 ∷ []) (i + 1) ds parts.1.1)

text_can : (k : Data) → is_text k ≡ true → IsWritten k
text_can (text s) h = refl
text_can _ h = cc

keys_can : (es : Entries) → keys_fit es ≡ true → AllByRecursion CanBeWritten (keys_in es)
keys_can no_entries h = tt
keys_can (entry k d es) h =
    let parts = and_parts (is_text k && below_first k es) (keys_fit es) h in
    (text_can k (and_parts (is_text k) (below_first k es) parts.0).0, keys_can es parts.1)

values_can : (ms : json.Members) (es : Entries) → is_some (entries_written ms es) ≡ true → AllByRecursion CanBeWritten (values_in es)
values_can ms no_entries h = tt
values_can ms (entry k d es) h =
    let parts = then_parts (λ j. entries_written (json.put (key_of k) j ms) es) (written d) h in
    (parts.0, values_can (json.put (key_of k) parts.1.0 ms) es parts.1.1)

content_can : (d : Data) → IsWritten (optional d) → IsWritten d
content_can null h = refl
content_can (text s) h = refl
content_can (integer n) h = refl
content_can (decimal s) h = refl
content_can (boolean b) h = refl
content_can (date s) h = refl
content_can (instant n) h = refl
content_can (reference s) h = refl
content_can (list ds) h = map_part (λ j. json.array (json.item j json.no_items)) (written (list ds)) h
content_can (map es) h = map_part (λ j. json.array (json.item j json.no_items)) (written (map es)) h
content_can (optional d) h = map_part (λ j. json.array (json.item j json.no_items)) (written (optional d)) h

-- the keys of a map that can be written are texts in order
pub keys_of_written : (es : Entries) → IsWritten (map es) → keys_fit es ≡ true
keys_of_written es h = (if_some (keys_fit es) (option_map json.object (entries_written json.no_members es)) h).0

values_of_written : (es : Entries) → IsWritten (map es) → is_some (entries_written json.no_members es) ≡ true
values_of_written es h =
    map_part json.object (entries_written json.no_members es) (if_some (keys_fit es) (option_map json.object (entries_written json.no_members es)) h).1

pub inside_can : (step : PlaceStep) (d : Data) → IsWritten d → AllByRecursion CanBeWritten (inside step d)
inside_can element (list ds) h = items_can [] 0 ds (map_part json.array (items_written [] ds) h)
inside_can element _ h = tt
inside_can key (map es) h = keys_can es (keys_of_written es h)
inside_can key _ h = tt
inside_can value (map es) h = values_can json.no_members es (values_of_written es h)
inside_can value _ h = tt
inside_can content (optional d) h = (content_can d h, tt)
inside_can content _ h = tt
