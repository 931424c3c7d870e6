-- Data that can be written.
use Rattle.std.proofs.Common.{◌≡◌, ℕ, List, [], ◌∷◌, ◌++◌, map, Bool, true, false, cond, Option, Some, None, option_map, option_and_then, is_some, refl, true≢false, sym, subst, ◌∙◌, append-nil}
use Rattle.std.specs.List.{All, AllByRecursion}
use Rattle.std.specs.Map.{keys_of}
use Rattle.std.proofs.lemmas.List.Elements.{All-head, All-tail}
use Rattle.serde_json.specs.Data as json
use Rattle.fv_datum.specs.Members.{each_some}
use Rattle.fv_datum.specs.Ascending.{IsAscending}
use Rattle.fv_bundle.specs.Spelled.{entry_read}
use Rattle.fv_bundle.proofs.Orders.{keyed, keys_in_order}
use Rattle.fv_bundle.proofs.Spelling.{keys_read}
use Rattle.fv_datum.specs.Data as datum
use Rattle.fv_datum.specs.Data.{Data, items_of, entries_of}
use Rattle.fv_datum.specs.Written.{is_null, key_of, keys_fit, written, items_written, entries_written}
use Rattle.fv_bundle.specs.Writing.{IsWritten}

some_after : {X Y : Type 0} (f : X → Option Y) (o : Option X) → is_some o ≡ true → ((x : X) → is_some (f x) ≡ true) → is_some (option_and_then f o) ≡ true
some_after f (Some x) h each = each x
some_after f None h each = absurd (true≢false (sym h))

some_mapped : {X Y : Type 0} (f : X → Y) (o : Option X) → is_some o ≡ true → is_some (option_map f o) ≡ true
some_mapped f (Some x) h = refl
some_mapped f None h = absurd (true≢false (sym h))

items_some : (done : List json.Data) (ds : List Data) → AllByRecursion IsWritten ds → is_some (items_written done (items_of ds)) ≡ true
items_some done [] all = refl
items_some done (d ∷ ds) all = some_after (λ j. items_written (done ++ j ∷ []) (items_of ds)) (written d) all.0 (λ j. items_some (done ++ j ∷ []) ds all.1)

-- what holds of each element's image
pub all_seen : {X Y : Type 0} (P : Y → Type 0) (f : X → Y) (xs : List X) → All (λ x. P (f x)) xs → AllByRecursion P (map f xs)
all_seen P f [] all = tt
all_seen P f (x ∷ xs) all = (All-head (λ y. P (f y)) x xs all, all_seen P f xs (All-tail (λ y. P (f y)) x xs all))

-- a list of such data
pub list_writable : (ds : List Data) → AllByRecursion IsWritten ds → IsWritten (datum.list (items_of ds))
list_writable ds all = some_mapped json.array (items_written [] (items_of ds)) (items_some [] ds all)

entries_some : (ms : json.Members) (es : List (Data × Data)) → AllByRecursion (λ e. IsWritten e.1) es → is_some (entries_written ms (entries_of es)) ≡ true
entries_some ms [] all = refl
entries_some ms (e ∷ es) all =
    some_after (λ j. entries_written (json.put (key_of e.0) j ms) (entries_of es)) (written e.1) all.0 (λ j. entries_some (json.put (key_of e.0) j ms) es all.1)

-- a map to such data, whose keys fit
pub map_writable : (es : List (Data × Data)) → keys_fit (entries_of es) ≡ true → AllByRecursion (λ e. IsWritten e.1) es → IsWritten (datum.map (entries_of es))
map_writable es fit all = rw fit (some_mapped json.object (entries_written json.no_members (entries_of es)) (entries_some json.no_members es all))

-- entries that were read of members in order
pub entries_writable : (f : json.Data → Option Data) (ms left : List (List ℕ × json.Data)) (out : List (Data × Data)) → left ≡ []
    → option_map (λ more. out ++ more) (option_map keyed (each_some (entry_read f) left)) ≡ option_map keyed (each_some (entry_read f) ms)
    → IsAscending (keys_of ms) → AllByRecursion (λ e. IsWritten e.1) out → IsWritten (datum.map (entries_of out))
entries_writable f ms left out none read ordered all = at (each_some (entry_read f) ms) refl
  where
    at : (o : Option (List (List ℕ × Data))) → each_some (entry_read f) ms ≡ o → IsWritten (datum.map (entries_of out))
    at None is = let no : Some (out ++ []) ≡ None = rw (none, is) at read in cc
    at (Some xs) is =
        let whole : Some (out ++ []) ≡ Some (keyed xs) = rw (none, is) at read in
        let made : out ++ [] ≡ keyed xs = cc in
        let same : out ≡ keyed xs = sym (append-nil out) ∙ made in
        let ascending = subst (λ (ns : List (List ℕ)). IsAscending ns) (sym (keys_read f ms xs is)) ordered in
        map_writable out (rw same (keys_in_order xs ascending)) all

optional_at : (b : Bool) (o : Option json.Data) → is_some o ≡ true → is_some (cond b (Some (json.array json.no_items)) (option_map (λ j. json.array (json.item j json.no_items)) o)) ≡ true
optional_at true o h = refl
optional_at false o h = some_mapped (λ j. json.array (json.item j json.no_items)) o h

-- an optional of such a datum
pub optional_writable : (d : Data) → IsWritten d → IsWritten (datum.optional d)
optional_writable d h = optional_at (is_null d) (written d) h
