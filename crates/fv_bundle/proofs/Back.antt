-- What was written of a datum that fits its type use spells that datum, and nothing is wrong with it.
use Rattle.std.proofs.Common.{◌≡◌, inl, inr, ℕ, ◌≤◌, List, [], ◌∷◌, ◌++◌, map, length, Bool, true, false, cond, ◌||◌, nat_lt, Option, Some, None, option_map, option_and_then, unwrap_or, is_some, Less, Greater, nat_cmp, refl, sym, ap, subst, ◌∙◌, append_assoc, append-nil}
use Rattle.std.specs.List.{AllByRecursion}
use Rattle.std.specs.Map.{keys_of}
use Rattle.std.specs.Option.{ok_or}
use Rattle.std.specs.Ordering.{ordering_reverse}
use Rattle.std.specs.Cmp.Lexicographic.{slice_cmp}
use Rattle.std.proofs.lemmas.Bool.{le-ltb}
use Rattle.std.proofs.lemmas.Cmp.{nat_list_cmp_total}
use Rattle.std.proofs.lemmas.List.{length-map}
use Rattle.std.proofs.lemmas.Map.Keys.{sorted_head, sorted_tail}
use Rattle.serde_json.specs.Data as json
use Rattle.serde_json.specs.View as seen
use Rattle.fv_datum.specs.Data as datum
use Rattle.fv_datum.specs.Data.{Data, items_of, entries_of}
use Rattle.fv_datum.specs.Json.{spelled, is_null_json}
use Rattle.fv_datum.specs.Kinds.{FitsKind}
use Rattle.fv_datum.specs.Members.{pairs, listed, each_some}
use Rattle.fv_datum.specs.Written.{is_null, keys_fit, written, items_written, entries_written}
use Rattle.fv_datum.specs.declared.fault.DatumFault.TheVariants.{WrongKind}
use Rattle.fv_datum.specs.declared.kind.Kind.{Kind}
use Rattle.fv_datum.specs.declared.kind.Kind.TheVariants as kind
use Rattle.fv_datum.proofs.Sorted.{below_middle}
use Rattle.fv_datum.proofs.Spelled.{spelled-written}
use Rattle.fv_bundle.specs.Fits.{Referring, OrNull, IsOfUse, Fits}
use Rattle.fv_bundle.specs.Flaws.{anywhere, referring, is_over, is_long}
use Rattle.fv_datum.specs.Ascending.{IsAscending}
use Rattle.fv_bundle.specs.Spelled.{datum_of, entry_read, list_of, map_of}
use Rattle.fv_bundle.specs.Types.{TypeUse, texts, integers, decimals, booleans, dates, instants, references, lists, maps, optionals}
use Rattle.fv_bundle.specs.Writing.{IsWritten, datum_json}
use Rattle.fv_datum.proofs.Bools.{or_false}
use Rattle.fv_datum.proofs.Lists.{each_of, none_made, read_made}
use Rattle.fv_bundle.proofs.Orders.{keyed, keys_in_order}
use Rattle.fv_bundle.proofs.Plain.{fits_written}
use Rattle.fv_bundle.proofs.Writable as can

-- ---- the JSON of containers

abbrev pub Named : Type 0
Named = List ℕ × json.Data

-- members in the order in which they come
abbrev pub members_of : List Named → json.Members
members_of [] = json.no_members
members_of (e ∷ es) = json.member e.0 e.1 (members_of es)

pub pairs_back : (ms : List Named) → pairs (members_of ms) ≡ ms
pairs_back [] = refl
pairs_back (m ∷ ms) = ap (λ xs. m ∷ xs) (pairs_back ms)

pub listed_back : (js : List json.Data) → listed (seen.items_of js) ≡ js
listed_back [] = refl
listed_back (j ∷ js) = ap (λ xs. j ∷ xs) (listed_back js)

pub some_json : (d : Data) → IsWritten d → written d ≡ Some (datum_json d)
some_json d h = at (written d) h
  where
    at : (o : Option json.Data) → is_some o ≡ true → o ≡ Some (unwrap_or o json.null)
    at (Some j) e = refl
    at None e = cc

pub items_json : (done : List json.Data) (ds : List Data) → AllByRecursion IsWritten ds → items_written done (items_of ds) ≡ Some (seen.items_of (done ++ map datum_json ds))
items_json done [] all = ap (λ xs. Some (seen.items_of xs)) (sym (append-nil done))
items_json done (d ∷ ds) all =
    let more : done ++ datum_json d ∷ map datum_json ds ≡ (done ++ datum_json d ∷ []) ++ map datum_json ds = simp append_assoc in
    ap (option_and_then (λ j. items_written (done ++ j ∷ []) (items_of ds))) (some_json d all.0) ∙ items_json (done ++ datum_json d ∷ []) ds all.1 ∙ ap (λ xs. Some (seen.items_of xs)) (sym more)

list_json : (ds : List Data) → AllByRecursion IsWritten ds → datum_json (list_of ds) ≡ json.array (seen.items_of (map datum_json ds))
list_json ds all = ap (λ o. unwrap_or (option_map json.array o) json.null) (items_json [] ds all)

abbrev pub entry_json : List ℕ × Data → Named
entry_json e = (e.0, datum_json e.1)

-- a key that is above those before it goes last
put_last : (done : List Named) (k : List ℕ) (d : json.Data) (more : List Named) → IsAscending (keys_of (done ++ (k, d) ∷ more)) → json.put k d (members_of done) ≡ members_of (done ++ (k, d) ∷ [])
put_last [] k d more h = refl
put_last (e ∷ done) k d more h =
    let rest = keys_of (done ++ (k, d) ∷ more) in
    let below : slice_cmp nat_cmp e.0 k ≡ Less = below_middle e.0 k d done more (sorted_head (slice_cmp nat_cmp) e.0 rest h) in
    let above : slice_cmp nat_cmp k e.0 ≡ Greater = nat_list_cmp_total.antisymm k e.0 ∙ ap ordering_reverse below in
    rw above (ap (json.member e.0 e.1) (put_last done k d more (sorted_tail (slice_cmp nat_cmp) e.0 rest h)))

entries_json : (done : List Named) (es : List (List ℕ × Data)) → IsAscending (keys_of (done ++ map entry_json es)) → AllByRecursion (λ e. IsWritten e.1) es
    → entries_written (members_of done) (entries_of (keyed es)) ≡ Some (members_of (done ++ map entry_json es))
entries_json done [] ascending all = ap (λ xs. Some (members_of xs)) (sym (append-nil done))
entries_json done (e ∷ es) ascending all =
    let more : (done ++ entry_json e ∷ []) ++ map entry_json es ≡ done ++ entry_json e ∷ map entry_json es = simp append_assoc in
    let last = put_last done e.0 (datum_json e.1) (map entry_json es) ascending in
    ap (option_and_then (λ j. entries_written (json.put e.0 j (members_of done)) (entries_of (keyed es)))) (some_json e.1 all.0)
    ∙ ap (λ ms. entries_written ms (entries_of (keyed es))) last
    ∙ entries_json (done ++ entry_json e ∷ []) es (subst (λ (xs : List Named). IsAscending (keys_of xs)) (sym more) ascending) all.1 ∙ ap (λ xs. Some (members_of xs)) more

pub same_keys : (es : List (List ℕ × Data)) → keys_of (map entry_json es) ≡ keys_of es
same_keys [] = refl
same_keys (e ∷ es) = ap (λ ns. e.0 ∷ ns) (same_keys es)

map_json : (es : List (List ℕ × Data)) → IsAscending (keys_of es) → AllByRecursion (λ e. IsWritten e.1) es → datum_json (map_of es) ≡ json.object (members_of (map entry_json es))
map_json es ascending all =
    let fit = keys_in_order es ascending in
    let order = subst (λ (ns : List (List ℕ)). IsAscending ns) (sym (same_keys es)) ascending in
    rw fit (ap (λ o. unwrap_or (option_map json.object o) json.null) (entries_json [] es order all))

-- ---- a datum that fits can be written

seen_keyed : (es : List (List ℕ × Data)) → AllByRecursion (λ e. IsWritten e.1) es → AllByRecursion (λ e. IsWritten e.1) (keyed es)
seen_keyed [] all = tt
seen_keyed (e ∷ es) all = (all.0, seen_keyed es all.1)

-- what holds of null and of each datum as said
pub null_or : (P Q : Data → Type 0) → Q datum.null → ((d : Data) → P d → Q d) → (d : Data) → OrNull P d → Q d
null_or P Q none turn d (inl is) = subst (λ (x : Data). Q x) (sym is) none
null_or P Q none turn d (inr of) = turn d of

use_writable : (N : Referring) (u : TypeUse) (d : Data) → IsOfUse N u d → IsWritten d
use_writable N texts d (s, few, it) = rw it refl
use_writable N integers d of = fits_written kind.Integer d (inr of)
use_writable N decimals d of = fits_written kind.Decimal d (inr of)
use_writable N booleans d of = fits_written kind.Boolean d (inr of)
use_writable N dates d of = fits_written kind.Date d (inr of)
use_writable N instants d of = fits_written kind.Instant d (inr of)
use_writable N (references type) d (s, passes, named, it) = rw it refl
use_writable N (lists u) d (ds, few, all, it) =
    rw it (can.list_writable ds (each_of (Fits N u) IsWritten ds (null_or (IsOfUse N u) IsWritten refl (λ x of. use_writable N u x of)) all))
use_writable N (maps u) d (es, few, ascending, all, it) =
    let parts = each_of (λ e. (length e.0 ≤ 65536) × Fits N u e.1) (λ e. IsWritten e.1) es (λ e fits. null_or (IsOfUse N u) IsWritten refl (λ x of. use_writable N u x of) e.1 fits.1) all in
    rw it (can.map_writable (keyed es) (keys_in_order es ascending) (seen_keyed es parts))
use_writable N (optionals u) d (c, fits, it) = rw it (can.optional_writable c (null_or (IsOfUse N u) IsWritten refl (λ x of. use_writable N u x of) c fits))

pub fits_writable : (N : Referring) (u : TypeUse) (d : Data) → Fits N u d → IsWritten d
fits_writable N u d fits = null_or (IsOfUse N u) IsWritten refl (use_writable N u) d fits

all_writable : (N : Referring) (u : TypeUse) (ds : List Data) → AllByRecursion (Fits N u) ds → AllByRecursion IsWritten ds
all_writable N u ds all = each_of (Fits N u) IsWritten ds (fits_writable N u) all

entries_writable : (N : Referring) (u : TypeUse) (es : List (List ℕ × Data)) → AllByRecursion (λ e. (length e.0 ≤ 65536) × Fits N u e.1) es → AllByRecursion (λ e. IsWritten e.1) es
entries_writable N u es all = each_of (λ e. (length e.0 ≤ 65536) × Fits N u e.1) (λ e. IsWritten e.1) es (λ e fits. fits_writable N u e.1 fits.1) all

pub list_is : (N : Referring) (u : TypeUse) (ds : List Data) (d : Data) → AllByRecursion (Fits N u) ds → d ≡ list_of ds → datum_json d ≡ json.array (seen.items_of (map datum_json ds))
list_is N u ds d all it = ap datum_json it ∙ list_json ds (all_writable N u ds all)

pub map_is : (N : Referring) (u : TypeUse) (es : List (List ℕ × Data)) (d : Data) → IsAscending (keys_of es) → AllByRecursion (λ e. (length e.0 ≤ 65536) × Fits N u e.1) es → d ≡ map_of es → datum_json d ≡ json.object (members_of (map entry_json es))
map_is N u es d ascending all it = ap datum_json it ∙ map_json es ascending (entries_writable N u es all)

-- ---- an optional holds null, or what isn't

pub optional_null : (c d : Data) → c ≡ datum.null → d ≡ datum.optional c → datum_json d ≡ json.array json.no_items
optional_null c d none it = rw (it, none) refl

mapped_json : (f : json.Data → json.Data) (d : Data) → IsWritten d → unwrap_or (option_map f (written d)) json.null ≡ f (datum_json d)
mapped_json f d h = ap (λ o. unwrap_or (option_map f o) json.null) (some_json d h)

pub optional_some : (c d : Data) → is_null c ≡ false → IsWritten c → d ≡ datum.optional c → datum_json d ≡ json.array (json.item (datum_json c) json.no_items)
optional_some c d some h it = rw (it, some) (mapped_json (λ j. json.array (json.item j json.no_items)) c h)

array_json : (o : Option json.Items) → is_some (option_map json.array o) ≡ true → is_null_json (unwrap_or (option_map json.array o) json.null) ≡ false
array_json (Some js) h = refl
array_json None h = cc

object_json : (b : Bool) (o : Option json.Members) → is_some (cond b (option_map json.object o) None) ≡ true → is_null_json (unwrap_or (cond b (option_map json.object o) None) json.null) ≡ false
object_json true (Some js) h = refl
object_json true None h = cc
object_json false o h = cc

content_json : (b : Bool) (o : Option json.Data) → is_some (cond b (Some (json.array json.no_items)) (option_map (λ j. json.array (json.item j json.no_items)) o)) ≡ true → is_null_json (unwrap_or (cond b (Some (json.array json.no_items)) (option_map (λ j. json.array (json.item j json.no_items)) o)) json.null) ≡ false
content_json true o h = refl
content_json false (Some j) h = refl
content_json false None h = cc

-- only null is written as `null`
pub not_null : (d : Data) → is_null d ≡ false → IsWritten d → is_null_json (datum_json d) ≡ false
not_null datum.null some h = cc
not_null (datum.text s) some h = refl
not_null (datum.integer n) some h = refl
not_null (datum.decimal s) some h = refl
not_null (datum.boolean b) some h = refl
not_null (datum.date s) some h = refl
not_null (datum.instant n) some h = refl
not_null (datum.reference s) some h = refl
not_null (datum.list ds) some h = array_json (items_written [] ds) h
not_null (datum.map es) some h = object_json (keys_fit es) (entries_written json.no_members es) h
not_null (datum.optional d) some h = content_json (is_null d) (written d) h

pub null_is : (d : Data) → is_null d ≡ true → d ≡ datum.null
null_is datum.null e = refl
null_is _ e = cc

-- ---- it is read as it was

plain_back : (k : Kind) (d : Data) → FitsKind k d → spelled k (datum_json d) ≡ Some d
plain_back k d fits = spelled-written k d (datum_json d) fits (ap (λ o. ok_or o WrongKind) (some_json d (fits_written k d fits)))

read_null : (u : TypeUse) → datum_of u json.null ≡ Some datum.null
read_null texts = refl
read_null integers = refl
read_null decimals = refl
read_null booleans = refl
read_null dates = refl
read_null instants = refl
read_null (references type) = refl
read_null (lists u) = refl
read_null (maps u) = refl
read_null (optionals u) = refl

abbrev IsRead : TypeUse → Data → Type 0
IsRead u d = datum_of u (datum_json d) ≡ Some d

content_read : (u : TypeUse) (c d : Data) (b : Bool) → is_null c ≡ b → IsWritten c → IsRead u c → d ≡ datum.optional c → IsRead (optionals u) d
content_read u c d true is h back it = let none = null_is c is in rw (optional_null c d none it, it, none) refl
content_read u c d false is h back it = rw (optional_some c d is h it, not_null c is h, back) (ap (λ x. Some x) (sym it))

use_back : (N : Referring) (u : TypeUse) (d : Data) → IsOfUse N u d → IsRead u d
use_back N texts d (s, few, it) = plain_back kind.Text d (inr (s, it))
use_back N integers d of = plain_back kind.Integer d (inr of)
use_back N decimals d of = plain_back kind.Decimal d (inr of)
use_back N booleans d of = plain_back kind.Boolean d (inr of)
use_back N dates d of = plain_back kind.Date d (inr of)
use_back N instants d of = plain_back kind.Instant d (inr of)
use_back N (references type) d (s, passes, named, it) = plain_back kind.Ref d (inr (s, passes, it))
use_back N (lists u) d (ds, few, all, it) =
    let parts = read_made (datum_of u) datum_json (Fits N u) ds (null_or (IsOfUse N u) (IsRead u) (read_null u) (λ x of. use_back N u x of)) all in
    let whole : each_some (datum_of u) (listed (seen.items_of (map datum_json ds))) ≡ Some ds = ap (each_some (datum_of u)) (listed_back (map datum_json ds)) ∙ parts in
    rw (list_is N u ds d all it) (ap (option_map list_of) whole ∙ ap (λ x. Some x) (sym it))
use_back N (maps u) d (es, few, ascending, all, it) =
    let parts = read_made (entry_read (datum_of u)) entry_json (λ e. (length e.0 ≤ 65536) × Fits N u e.1) es
    (λ e fits. ap (option_map (λ x. (e.0, x))) (null_or (IsOfUse N u) (IsRead u) (read_null u) (λ x of. use_back N u x of) e.1 fits.1)) all in
    let whole : each_some (entry_read (datum_of u)) (pairs (members_of (map entry_json es))) ≡ Some es = ap (each_some (entry_read (datum_of u))) (pairs_back (map entry_json es)) ∙ parts in
    rw (map_is N u es d ascending all it) (ap (option_map map_of) whole ∙ ap (λ x. Some x) (sym it))
use_back N (optionals u) d (c, fits, it) =
    content_read u c d (is_null c) refl (fits_writable N u c fits) (null_or (IsOfUse N u) (IsRead u) (read_null u) (λ x of. use_back N u x of) c fits) it

-- what was written of a datum that fits spells it
pub read_back : (N : Referring) (u : TypeUse) (d : Data) → Fits N u d → datum_of u (datum_json d) ≡ Some d
read_back N u d fits = null_or (IsOfUse N u) (IsRead u) (read_null u) (use_back N u) d fits

-- ---- no test finds anything in it

-- a test that finds nothing in null, and nothing in a datum of a type use by itself
record IsCalm (N : Referring) (test : TypeUse → json.Data → Bool) : Type 0 where
  null : (u : TypeUse) → anywhere test u json.null ≡ false
  own : (u : TypeUse) (d : Data) → IsOfUse N u d → test u (datum_json d) ≡ false

abbrev IsQuiet : (TypeUse → json.Data → Bool) → TypeUse → Data → Type 0
IsQuiet test u d = anywhere test u (datum_json d) ≡ false

content_quiet : (test : TypeUse → json.Data → Bool) (u : TypeUse) (c d : Data) (b : Bool) → is_null c ≡ b → IsWritten c → IsQuiet test u c → d ≡ datum.optional c → test (optionals u) (datum_json d) ≡ false → IsQuiet test (optionals u) d
content_quiet test u c d true is h calm it own =
    let same = optional_null c d (null_is c is) it in
    rw same (or_false _ false (rw same at own) refl)
content_quiet test u c d false is h calm it own =
    let same = optional_some c d is h it in
    rw same (or_false _ (anywhere test u (datum_json c) || false) (rw same at own) (or_false _ false calm refl))

use_quiet : (N : Referring) (test : TypeUse → json.Data → Bool) (calm : IsCalm N test) (u : TypeUse) (d : Data) → IsOfUse N u d → IsQuiet test u d
use_quiet N test calm texts d of = calm.own texts d of
use_quiet N test calm integers d of = calm.own integers d of
use_quiet N test calm decimals d of = calm.own decimals d of
use_quiet N test calm booleans d of = calm.own booleans d of
use_quiet N test calm dates d of = calm.own dates d of
use_quiet N test calm instants d of = calm.own instants d of
use_quiet N test calm (references type) d of = calm.own (references type) d of
use_quiet N test calm (lists u) d (ds, few, all, it) =
    let same = list_is N u ds d all it in
    let own = calm.own (lists u) d (ds, few, all, it) in
    let parts = none_made (anywhere test u) datum_json (Fits N u) ds (null_or (IsOfUse N u) (IsQuiet test u) (calm.null u) (λ x of. use_quiet N test calm u x of)) all in
    rw (same, listed_back (map datum_json ds)) (or_false _ _ (rw same at own) parts)
use_quiet N test calm (maps u) d (es, few, ascending, all, it) =
    let same = map_is N u es d ascending all it in
    let own = calm.own (maps u) d (es, few, ascending, all, it) in
    let parts = none_made (λ m. anywhere test u m.1) entry_json (λ e. (length e.0 ≤ 65536) × Fits N u e.1) es (λ e fits. null_or (IsOfUse N u) (IsQuiet test u) (calm.null u) (λ x of. use_quiet N test calm u x of) e.1 fits.1) all in
    rw (same, pairs_back (map entry_json es)) (or_false _ _ (rw same at own) parts)
use_quiet N test calm (optionals u) d (c, fits, it) =
    content_quiet test u c d (is_null c) refl (fits_writable N u c fits) (null_or (IsOfUse N u) (IsQuiet test u) (calm.null u) (λ x of. use_quiet N test calm u x of) c fits) it (calm.own (optionals u) d (c, fits, it))

quiet : (N : Referring) (test : TypeUse → json.Data → Bool) → IsCalm N test → (u : TypeUse) (d : Data) → Fits N u d → IsQuiet test u d
quiet N test calm u d fits = null_or (IsOfUse N u) (IsQuiet test u) (calm.null u) (use_quiet N test calm u) d fits

-- nothing is too large

null_small : (u : TypeUse) → anywhere is_over u json.null ≡ false
null_small texts = refl
null_small integers = refl
null_small decimals = refl
null_small booleans = refl
null_small dates = refl
null_small instants = refl
null_small (references type) = refl
null_small (lists u) = refl
null_small (maps u) = refl
null_small (optionals u) = refl

own_small : (N : Referring) (u : TypeUse) (d : Data) → IsOfUse N u d → is_over u (datum_json d) ≡ false
own_small N texts d (s, few, it) = rw it (le-ltb 65536 (length s) few)
own_small N integers d of = refl
own_small N decimals d of = refl
own_small N booleans d of = refl
own_small N dates d of = refl
own_small N instants d of = refl
own_small N (references type) d of = refl
own_small N (lists u) d (ds, few, all, it) =
    rw (list_is N u ds d all it, listed_back (map datum_json ds), length-map) (le-ltb 65536 (length ds) few)
own_small N (maps u) d (es, few, ascending, all, it) =
    let keys = none_made (λ m. is_long m.0) entry_json (λ e. (length e.0 ≤ 65536) × Fits N u e.1) es (λ e fits. le-ltb 65536 (length e.0) fits.0) all in
    let count : nat_lt 65536 (length (map entry_json es)) ≡ false = rw length-map (le-ltb 65536 (length es) few) in
    rw (map_is N u es d ascending all it, pairs_back (map entry_json es)) (or_false _ _ count keys)
own_small N (optionals u) d of = refl

pub none_large : (N : Referring) (u : TypeUse) (d : Data) → Fits N u d → anywhere is_over u (datum_json d) ≡ false
none_large N u d fits = quiet N is_over (record { null = null_small; own = own_small N }) u d fits

-- references are as a test wants them

null_refers : (test : List ℕ → List ℕ → Bool) (u : TypeUse) → anywhere (referring test) u json.null ≡ false
null_refers test texts = refl
null_refers test integers = refl
null_refers test decimals = refl
null_refers test booleans = refl
null_refers test dates = refl
null_refers test instants = refl
null_refers test (references type) = refl
null_refers test (lists u) = refl
null_refers test (maps u) = refl
null_refers test (optionals u) = refl

own_refers : (N : Referring) (test : List ℕ → List ℕ → Bool) → ((type name : List ℕ) → N type name → test type name ≡ false) → (u : TypeUse) (d : Data) → IsOfUse N u d → referring test u (datum_json d) ≡ false
own_refers N test named texts d of = refl
own_refers N test named integers d of = refl
own_refers N test named decimals d of = refl
own_refers N test named booleans d of = refl
own_refers N test named dates d of = refl
own_refers N test named instants d of = refl
own_refers N test named (references type) d (s, passes, is, it) = rw it (named type s is)
own_refers N test named (lists u) d of = refl
own_refers N test named (maps u) d of = refl
own_refers N test named (optionals u) d of = refl

pub none_refers : (N : Referring) (test : List ℕ → List ℕ → Bool) → ((type name : List ℕ) → N type name → test type name ≡ false) → (u : TypeUse) (d : Data) → Fits N u d
    → anywhere (referring test) u (datum_json d) ≡ false
none_refers N test named u d fits = quiet N (referring test) (record { null = null_refers test; own = own_refers N test named }) u d fits
