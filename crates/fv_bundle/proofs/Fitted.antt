-- What is spelled fits its type use, where nothing in it is too large and each reference is one of the names.
use Rattle.std.proofs.Common.{◌≡◌, ◌⊎◌, inl, inr, ℕ, ◌≤◌, List, [], ◌∷◌, ◌++◌, ◌||◌, length, Bool, true, false, cond, nat_lt, Option, Some, None, option_map, option_and_then, is_some, Ordering, Less, Equal, Greater, nat_cmp, refl, sym, ap, ◌∙◌}
use Rattle.std.specs.List.{list_any, AllByRecursion}
use Rattle.std.specs.List.Sorted.{IsStrictlySortedBy}
use Rattle.std.specs.Map.{keys_of}
use Rattle.std.specs.Ordering.{is_lt}
use Rattle.std.specs.Cmp.Lexicographic.{slice_cmp}
use Rattle.std.proofs.lemmas.Bool.{ltb-false, and_parts}
use Rattle.std.proofs.lemmas.Cmp.{nat_list_cmp_total}
use Rattle.serde_json.specs.Data as json
use Rattle.serde_json.specs.Find.{as_str}
use Rattle.fv_datum.specs.Data as datum
use Rattle.fv_datum.specs.Data.{Data, items_of, entries_of}
use Rattle.fv_datum.specs.Json.{spelled, is_null_json}
use Rattle.fv_datum.specs.Kinds.{IsOfKind}
use Rattle.fv_datum.specs.Members.{pairs, listed, each_some}
use Rattle.fv_datum.specs.Name.{names}
use Rattle.fv_datum.specs.Written.{keys_fit, written, items_written, entries_written}
use Rattle.fv_datum.specs.declared.kind.Kind.TheVariants as kind
use Rattle.fv_datum.proofs.Spelled.{spelled-fits}
use Rattle.fv_bundle.specs.Fits.{Referring, Fits}
use Rattle.fv_bundle.specs.Flaws.{anywhere, is_over, is_long}
use Rattle.fv_datum.specs.Ascending.{IsAscending}
use Rattle.fv_bundle.specs.Spelled.{datum_of, entry_read, list_of, map_of}
use Rattle.fv_bundle.specs.Types.{TypeUse, texts, integers, decimals, booleans, dates, instants, references, lists, maps, optionals}
use Rattle.fv_bundle.specs.Writing.{IsWritten}
use Rattle.fv_bundle.proofs.Orders.{keyed}
use Rattle.fv_datum.proofs.Bools.{or_left, or_right}
use Rattle.fv_datum.proofs.Lists.{each_read, length_read}

-- ---- texts and references

text_string : (j : json.Data) (s : List ℕ) → spelled kind.Text j ≡ Some (datum.text s) → as_str j ≡ Some s
text_string (json.string r) s e = let same : datum.text r ≡ datum.text s = cc in let bytes : r ≡ s = cc in ap (λ x. Some x) bytes
text_string _ s e = cc

passing_name : (b : Bool) (s name : List ℕ) → option_map datum.reference (cond b (Some s) None) ≡ Some (datum.reference name) → s ≡ name
passing_name true s name e = let same : datum.reference s ≡ datum.reference name = cc in cc
passing_name false s name e = cc

reference_string : (j : json.Data) (name : List ℕ) → spelled kind.Ref j ≡ Some (datum.reference name) → as_str j ≡ Some name
reference_string (json.string s) name e = ap (λ x. Some x) (passing_name (names s) s name e)
reference_string _ name e = cc

-- ---- what can be written, by parts

then_parts : {X Y : Type 0} (f : X → Option Y) (o : Option X) → is_some (option_and_then f o) ≡ true → (is_some o ≡ true) × ((x : X) × (is_some (f x) ≡ true))
then_parts f (Some x) h = (refl, (x, h))
then_parts f None h = cc

map_part : {X Y : Type 0} (f : X → Y) (o : Option X) → is_some (option_map f o) ≡ true → is_some o ≡ true
map_part f (Some x) h = refl
map_part f None h = cc

items_writable : (done : List json.Data) (ds : List Data) → is_some (items_written done (items_of ds)) ≡ true → AllByRecursion IsWritten ds
items_writable done [] h = tt
items_writable done (d ∷ ds) h =
    let parts = then_parts (λ j. items_written (done ++ j ∷ []) (items_of ds)) (written d) h in
    (parts.0, items_writable (done ++ parts.1.0 ∷ []) ds parts.1.1)

entries_writable : (ms : json.Members) (es : List (List ℕ × Data)) → is_some (entries_written ms (entries_of (keyed es))) ≡ true → AllByRecursion (λ e. IsWritten e.1) es
entries_writable ms [] h = tt
entries_writable ms (e ∷ es) h =
    let parts = then_parts (λ j. entries_written (json.put e.0 j ms) (entries_of (keyed es))) (written e.1) h in
    (parts.0, entries_writable (json.put e.0 parts.1.0 ms) es parts.1.1)

if_some : {X : Type 0} (b : Bool) (o : Option X) → is_some (cond b o None) ≡ true → (b ≡ true) × (is_some o ≡ true)
if_some true o h = (refl, h)
if_some false o h = cc

optional_writable : (d : Data) → IsWritten (datum.optional d) → IsWritten d
optional_writable datum.null h = refl
optional_writable (datum.text s) h = refl
optional_writable (datum.integer n) h = refl
optional_writable (datum.decimal s) h = refl
optional_writable (datum.boolean b) h = refl
optional_writable (datum.date s) h = refl
optional_writable (datum.instant n) h = refl
optional_writable (datum.reference s) h = refl
optional_writable (datum.list ds) h = map_part (λ j. json.array (json.item j json.no_items)) (written (datum.list ds)) h
optional_writable (datum.map es) h = map_part (λ j. json.array (json.item j json.no_items)) (written (datum.map es)) h
optional_writable (datum.optional d) h = map_part (λ j. json.array (json.item j json.no_items)) (written (datum.optional d)) h

less : (o : Ordering) → is_lt o ≡ true → o ≡ Less
less Less e = refl
less Equal e = cc
less Greater e = cc

all_above : (k l : List ℕ) (ns : List (List ℕ)) → slice_cmp nat_cmp k l ≡ Less → AllByRecursion (λ n. slice_cmp nat_cmp l n ≡ Less) ns → AllByRecursion (λ n. slice_cmp nat_cmp k n ≡ Less) ns
all_above k l [] below all = tt
all_above k l (n ∷ ns) below all = (nat_list_cmp_total.trans k l n below all.0, all_above k l ns below all.1)

-- texts in order ascend
ascend : (es : List (List ℕ × Data)) → keys_fit (entries_of (keyed es)) ≡ true → IsAscending (keys_of es)
unfolding IsStrictlySortedBy
ascend [] h = tt
ascend (e ∷ []) h = (tt, tt)
ascend (e ∷ f ∷ es) h =
    let parts = and_parts _ _ h in
    let below : slice_cmp nat_cmp e.0 f.0 ≡ Less = less _ parts.0 in
    let more = ascend (f ∷ es) parts.1 in
    ((below, all_above e.0 f.0 (keys_of es) below more.0), more)

-- ---- a datum

pub mapped : {X Y : Type 0} (f : X → Y) (o : Option X) (y : Y) → option_map f o ≡ Some y → (x : X) × (o ≡ Some x) × (y ≡ f x)
mapped f (Some x) y e = (x, refl, cc)
mapped f None y e = cc

-- a member's name and the datum of its value
pub entry_parts : (f : json.Data → Option Data) (m : List ℕ × json.Data) (e : List ℕ × Data) → entry_read f m ≡ Some e → (e.0 ≡ m.0) × (f m.1 ≡ Some e.1)
entry_parts f m e is =
    let found = mapped (λ (d : Data). (m.0, d)) (f m.1) e is in
    (ap (λ (x : List ℕ × Data). x.0) found.2, found.1 ∙ ap (λ (x : List ℕ × Data). Some x.1) (sym found.2))

unless_null : (b : Bool) (o : Option Data) (d : Data) → cond b None o ≡ Some d → o ≡ Some d
unless_null true o d e = cc
unless_null false o d e = e

-- none of the tests finds anything in the value
pub record IsFree (a b : TypeUse → json.Data → Bool) (u : TypeUse) (j : json.Data) : Type 0 where
  pub first : anywhere a u j ≡ false
  pub second : anywhere b u j ≡ false
  pub small : anywhere is_over u j ≡ false

free_items : (a b : TypeUse → json.Data → Bool) (u : TypeUse) (js : List json.Data) → list_any (anywhere a u) js ≡ false → list_any (anywhere b u) js ≡ false → list_any (anywhere is_over u) js ≡ false → AllByRecursion (IsFree a b u) js
free_items a b u [] p q r = tt
free_items a b u (j ∷ js) p q r = (
  record { first = or_left _ (list_any (anywhere a u) js) p; second = or_left _ (list_any (anywhere b u) js) q; small = or_left _ (list_any (anywhere is_over u) js) r },
  free_items a b u js (or_right (anywhere a u j) _ p) (or_right (anywhere b u j) _ q) (or_right (anywhere is_over u j) _ r),
)

free_members : (a b : TypeUse → json.Data → Bool) (u : TypeUse) (ms : List (List ℕ × json.Data)) → list_any (λ m. anywhere a u m.1) ms ≡ false → list_any (λ m. anywhere b u m.1) ms ≡ false → list_any (λ m. anywhere is_over u m.1) ms ≡ false → list_any (λ m. is_long m.0) ms ≡ false
    → AllByRecursion (λ m. IsFree a b u m.1 × (is_long m.0 ≡ false)) ms
free_members a b u [] p q r l = tt
free_members a b u (m ∷ ms) p q r l = (
  (
    record { first = or_left _ (list_any (λ n. anywhere a u n.1) ms) p; second = or_left _ (list_any (λ n. anywhere b u n.1) ms) q; small = or_left _ (list_any (λ n. anywhere is_over u n.1) ms) r },
    or_left _ (list_any (λ n. is_long n.0) ms) l,
  ),
  free_members a b u ms (or_right (anywhere a u m.1) _ p) (or_right (anywhere b u m.1) _ q) (or_right (anywhere is_over u m.1) _ r) (or_right (is_long m.0) _ l),
)

text_fits : (Named : Referring) (j : json.Data) (d : Data) → (d ≡ datum.null) ⊎ IsOfKind kind.Text d → spelled kind.Text j ≡ Some d → is_over texts j ≡ false → Fits Named texts d
text_fits Named j d (inl is) e small = inl is
text_fits Named j d (inr (s, it)) e small =
    let found : as_str j ≡ Some s = text_string j s (rw it at e) in
    let limit : nat_lt 65536 (length s) ≡ false = rw found at small in
    inr (s, ltb-false 65536 (length s) limit, it)

-- what a reference that no test finds refers to
abbrev pub Refers : Referring → (TypeUse → json.Data → Bool) → (TypeUse → json.Data → Bool) → Type 0
Refers Named a b = (type name : List ℕ) (j : json.Data) → as_str j ≡ Some name → a (references type) j ≡ false → b (references type) j ≡ false → Named type name

reference_fits : (Named : Referring) (a b : TypeUse → json.Data → Bool) (type : List ℕ) (j : json.Data) (d : Data) → Refers Named a b → (d ≡ datum.null) ⊎ IsOfKind kind.Ref d → spelled kind.Ref j ≡ Some d → a (references type) j ≡ false → b (references type) j ≡ false → Fits Named (references type) d
reference_fits Named a b type j d refers (inl is) e p q = inl is
reference_fits Named a b type j d refers (inr (s, passes, it)) e p q =
    inr (s, passes, refers type s j (reference_string j s (rw it at e)) p q, it)

pub spelled_fits : (Named : Referring) (a b : TypeUse → json.Data → Bool) (u : TypeUse) (j : json.Data) (d : Data) → Refers Named a b → datum_of u j ≡ Some d → IsWritten d → IsFree a b u j → Fits Named u d
spelled_fits Named a b texts j d refers e can free = text_fits Named j d (spelled-fits kind.Text j d e) e free.small
spelled_fits Named a b integers j d refers e can free = spelled-fits kind.Integer j d e
spelled_fits Named a b decimals j d refers e can free = spelled-fits kind.Decimal j d e
spelled_fits Named a b booleans j d refers e can free = spelled-fits kind.Boolean j d e
spelled_fits Named a b dates j d refers e can free = spelled-fits kind.Date j d e
spelled_fits Named a b instants j d refers e can free = spelled-fits kind.Instant j d e
spelled_fits Named a b (references type) j d refers e can free = reference_fits Named a b type j d refers (spelled-fits kind.Ref j d e) e free.first free.second
spelled_fits Named a b (lists u) json.null d refers e can free = inl cc
spelled_fits Named a b (lists u) (json.array js) d refers e can free =
    let found = mapped list_of (each_some (datum_of u) (listed js)) d e in
    let ds = found.0 in
    let small = or_left (nat_lt 65536 (length (listed js))) _ free.small in
    let few : length ds ≤ 65536 = rw (length_read (datum_of u) (listed js) ds found.1) (ltb-false 65536 (length (listed js)) small) in
    let parts = items_writable [] ds (map_part json.array (items_written [] (items_of ds)) (rw found.2 at can)) in
    let each = free_items a b u (listed js) (or_right (a (lists u) (json.array js)) _ free.first) (or_right (b (lists u) (json.array js)) _ free.second) (or_right (nat_lt 65536 (length (listed js))) _ free.small) in
    inr (ds, few, each_read (datum_of u) (IsFree a b u) IsWritten (Fits Named u) (λ x y is w ok. spelled_fits Named a b u x y refers is w ok) (listed js) ds found.1 parts each, found.2)
spelled_fits Named a b (lists u) _ d refers e can free = cc
spelled_fits Named a b (maps u) json.null d refers e can free = inl cc
spelled_fits Named a b (maps u) (json.object ms) d refers e can free =
    let found = mapped map_of (each_some (entry_read (datum_of u)) (pairs ms)) d e in
    let es = found.0 in
    let small = or_left (nat_lt 65536 (length (pairs ms)) || list_any (λ m. is_long m.0) (pairs ms)) _ free.small in
    let count = or_left (nat_lt 65536 (length (pairs ms))) _ small in
    let few : length es ≤ 65536 = rw (length_read (entry_read (datum_of u)) (pairs ms) es found.1) (ltb-false 65536 (length (pairs ms)) count) in
    let able = if_some (keys_fit (entries_of (keyed es))) (option_map json.object (entries_written json.no_members (entries_of (keyed es)))) (rw found.2 at can) in
    let parts = entries_writable json.no_members es (map_part json.object (entries_written json.no_members (entries_of (keyed es))) able.1) in
    let each = free_members a b u (pairs ms) (or_right (a (maps u) (json.object ms)) _ free.first) (or_right (b (maps u) (json.object ms)) _ free.second) (or_right (nat_lt 65536 (length (pairs ms)) || list_any (λ m. is_long m.0) (pairs ms)) _ free.small) (or_right (nat_lt 65536 (length (pairs ms))) _ small) in
    let all = each_read (entry_read (datum_of u)) (λ m. IsFree a b u m.1 × (is_long m.0 ≡ false)) (λ y. IsWritten y.1) (λ y. (length y.0 ≤ 65536) × Fits Named u y.1)
    (λ m y is w ok. let p = entry_parts (datum_of u) m y is in (rw p.0 (ltb-false 65536 (length m.0) ok.1), spelled_fits Named a b u m.1 y.1 refers p.1 w ok.0)) (pairs ms) es found.1 parts each in
    inr (es, few, ascend es able.0, all, found.2)
spelled_fits Named a b (maps u) _ d refers e can free = cc
spelled_fits Named a b (optionals u) json.null d refers e can free = inl cc
spelled_fits Named a b (optionals u) (json.array json.no_items) d refers e can free = inr (datum.null, inl refl, cc)
spelled_fits Named a b (optionals u) (json.array (json.item j json.no_items)) d refers e can free =
    let found = mapped datum.optional (cond (is_null_json j) None (datum_of u j)) d e in
    let is = unless_null (is_null_json j) (datum_of u j) found.0 found.1 in
    let inside : IsFree a b u j = record {
      first = or_left _ false (or_right (a (optionals u) (json.array (json.item j json.no_items))) _ free.first);
      second = or_left _ false (or_right (b (optionals u) (json.array (json.item j json.no_items))) _ free.second);
      small = or_left _ false free.small;
    } in
    inr (found.0, spelled_fits Named a b u j found.0 refers is (optional_writable found.0 (rw found.2 at can)) inside, found.2)
spelled_fits Named a b (optionals u) (json.array (json.item j (json.item k js))) d refers e can free = cc
spelled_fits Named a b (optionals u) _ d refers e can free = cc
