-- What was written of a datum within the limits is too large for no type use.
use Rattle.std.proofs.Common.{◌≡◌, ◌≤◌, ◌+◌, ◌==◌, ℕ, suc, List, [], ◌∷◌, map, length, drop, Bool, true, false, cond, nat_le, Option, Some, None, option_map, is_some, refl, sym, subst, arith}
use Rattle.std.specs.Prelude.{⊤, pos, neg_ℤ}
use Rattle.std.specs.List.{list_any, AllByRecursion}
use Rattle.std.proofs.lemmas.Bool.{le-ltb, leb-true, eqb-true, and_parts}
use Rattle.std.proofs.lemmas.List.{length-map}
use Rattle.serde_json.specs.Data as json
use Rattle.serde_json.specs.View as seen
use Rattle.fv_datum.specs.Data as datum
use Rattle.fv_datum.specs.Data.{Data}
use Rattle.fv_datum.specs.Days.{has_date_form, calendar_day, year_of, month_of, month_day_of, is_date}
use Rattle.fv_datum.specs.Decimals.{are_digits, is_negative, before_point, behind_point, is_whole_part, is_fraction, unsigned_units, is_decimal}
use Rattle.fv_datum.specs.Kinds.{IsOfKind}
use Rattle.fv_datum.specs.Members.{pairs, listed}
use Rattle.fv_datum.specs.Name.{names}
use Rattle.fv_datum.specs.Written.{is_null}
use Rattle.fv_datum.specs.declared.kind.Kind.{Kind}
use Rattle.fv_datum.specs.declared.kind.Kind.TheVariants as kind
use Rattle.fv_bundle.specs.Fits.{Referring, IsOfUse, Fits}
use Rattle.fv_bundle.specs.Flaws.{anywhere, is_over, is_long, is_large}
use Rattle.fv_bundle.specs.Types.{TypeUse, texts, integers, decimals, booleans, dates, instants, references, lists, maps, optionals}
use Rattle.fv_bundle.specs.Writing.{IsWritten, datum_json}
use Rattle.fv_bundle.proofs.Back.{members_of, entry_json, pairs_back, listed_back, list_is, map_is, optional_null, optional_some, null_or, null_is, fits_writable}
use Rattle.fv_datum.proofs.Bools.{or_false}
use Rattle.fv_datum.proofs.Lists.{each_of}

-- each string and key has at most 65,536 bytes, each array and each object at most 65,536 entries
abbrev mutual
  pub IsSmall : json.Data → Type 0
  IsSmall json.null = ⊤
  IsSmall (json.boolean b) = ⊤
  IsSmall (json.number n) = ⊤
  IsSmall (json.string s) = length s ≤ 65536
  IsSmall (json.array js) = (length (listed js) ≤ 65536) × AreSmallItems js
  IsSmall (json.object ms) = (length (pairs ms) ≤ 65536) × AreSmall ms

  pub AreSmallItems : json.Items → Type 0
  AreSmallItems json.no_items = ⊤
  AreSmallItems (json.item j js) = IsSmall j × AreSmallItems js

  pub AreSmall : json.Members → Type 0
  AreSmall json.no_members = ⊤
  AreSmall (json.member k j ms) = (length k ≤ 65536) × IsSmall j × AreSmall ms

-- ---- nothing in it is too large

mutual
  small_free : (u : TypeUse) (j : json.Data) → IsSmall j → anywhere is_over u j ≡ false
  small_free texts (json.string s) h = le-ltb 65536 (length s) h
  small_free texts _ h = refl
  small_free integers j h = refl
  small_free decimals j h = refl
  small_free booleans j h = refl
  small_free dates j h = refl
  small_free instants j h = refl
  small_free (references type) j h = refl
  small_free (lists u) (json.array js) h = or_false _ _ (le-ltb 65536 (length (listed js)) h.0) (items_free u js h.1)
  small_free (lists u) _ h = refl
  small_free (maps u) (json.object ms) h = or_false _ _ (or_false _ _ (le-ltb 65536 (length (pairs ms)) h.0) (keys_free ms h.1)) (members_free u ms h.1)
  small_free (maps u) _ h = refl
  small_free (optionals u) (json.array js) h = items_free u js h.1
  small_free (optionals u) _ h = refl

  items_free : (u : TypeUse) (js : json.Items) → AreSmallItems js → list_any (anywhere is_over u) (listed js) ≡ false
  items_free u json.no_items h = refl
  items_free u (json.item j js) h = or_false _ _ (small_free u j h.0) (items_free u js h.1)

  members_free : (u : TypeUse) (ms : json.Members) → AreSmall ms → list_any (λ m. anywhere is_over u m.1) (pairs ms) ≡ false
  members_free u json.no_members h = refl
  members_free u (json.member k j ms) h = or_false _ _ (small_free u j h.1) (members_free u ms h.2)

  keys_free : (ms : json.Members) → AreSmall ms → list_any (λ m. is_long m.0) (pairs ms) ≡ false
  keys_free json.no_members h = refl
  keys_free (json.member k j ms) h = or_false _ _ (le-ltb 65536 (length k) h.0) (keys_free ms h.2)

pub never_large : (o : Option TypeUse) (j : json.Data) → IsSmall j → is_large o j ≡ false
never_large None j h = refl
never_large (Some u) j h = small_free u j h

-- ---- texts of a form are short

abbrev after : Option (List ℕ) → ℕ
after None = 0
after (Some s) = suc (length s)

at_point : (s : List ℕ) → length s ≡ length (before_point s) + after (behind_point s)
at_point [] = refl
at_point (b ∷ bs) = at (b == 46) (at_point bs)
  where
    at : (here : Bool) → length bs ≡ length (before_point bs) + after (behind_point bs) → suc (length bs) ≡ length (cond here [] (b ∷ before_point bs)) + after (cond here (Some bs) (behind_point bs))
    at true later = omega arith
    at false later = omega arith

fraction_short : (o : Option (List ℕ)) → is_fraction o ≡ true → after o ≤ 10
fraction_short None e = omega arith
fraction_short (Some s) e = let few : length s ≤ 9 = leb-true (length s) 9 (and_parts (are_digits s) (nat_le (length s) 9) e).1 in omega arith

whole_short : (s : List ℕ) → is_whole_part s ≡ true → length s ≤ 18
whole_short s e = leb-true (length s) 18 (and_parts _ _ (and_parts _ _ e).0).1

if_there : {X : Type 0} (b : Bool) (o : Option X) → is_some (cond b o None) ≡ true → b ≡ true
if_there true o e = refl
if_there false o e = cc

mapped_there : {X Y : Type 0} (f : X → Y) (o : Option X) → is_some (option_map f o) ≡ true → is_some o ≡ true
mapped_there f (Some x) e = refl
mapped_there f None e = cc

unsigned_short : (s : List ℕ) → is_some (unsigned_units s) ≡ true → length s ≤ 28
unsigned_short s e = joined (and_parts _ _ (if_there _ _ e))
  where
    joined : (is_whole_part (before_point s) ≡ true) × (is_fraction (behind_point s) ≡ true) → length s ≤ 28
    joined both =
        let front : length (before_point s) ≤ 18 = whole_short (before_point s) both.0 in
        let back : after (behind_point s) ≤ 10 = fraction_short (behind_point s) both.1 in
        let whole : length s ≡ length (before_point s) + after (behind_point s) = at_point s in
        omega arith

dropped : (s : List ℕ) → length s ≤ suc (length (drop 1 s))
dropped [] = omega arith
dropped (b ∷ bs) = omega arith

decimal_short : (s : List ℕ) → is_decimal s ≡ true → length s ≤ 65536
decimal_short s e = at (is_negative s) e
  where
    at : (b : Bool) → is_some (cond b (option_map (λ n. neg_ℤ (pos n)) (unsigned_units (drop 1 s))) (option_map (λ n. pos n) (unsigned_units s))) ≡ true → length s ≤ 65536
    at true is = let few = unsigned_short (drop 1 s) (mapped_there (λ n. neg_ℤ (pos n)) (unsigned_units (drop 1 s)) is) in let more = dropped s in omega arith
    at false is = let few = unsigned_short s (mapped_there (λ n. pos n) (unsigned_units s) is) in omega arith

ten : (n : ℕ) → (n == 10) ≡ true → n ≤ 65536
ten n e = let is : n ≡ 10 = eqb-true n 10 e in omega arith

date_short : (s : List ℕ) → is_date s ≡ true → length s ≤ 65536
date_short s e =
    let form : has_date_form s ≡ true = if_there (has_date_form s) (calendar_day (year_of s) (month_of s) (month_day_of s)) e in
    ten (length s) (and_parts _ _ (and_parts _ _ (and_parts _ _ (and_parts _ _ (and_parts _ _ form).0).0).0).0).0

name_short : (s : List ℕ) → names s ≡ true → length s ≤ 65536
name_short s e = at (and_parts _ _ (and_parts _ _ (and_parts _ _ e).0).0).1
  where
    at : nat_le (length s) 64 ≡ true → length s ≤ 65536
    at few = let within : length s ≤ 64 = leb-true (length s) 64 few in omega arith

-- ---- a datum that fits is written small

kind_small : (k : Kind) (d : Data) → IsOfKind k d → (k ≡ kind.Text → ⊥) → IsSmall (datum_json d)
kind_small kind.Text d of other = absurd (other refl)
kind_small kind.Integer d (n, fits, it) other = rw it tt
kind_small kind.Decimal d (s, passes, it) other = rw it (decimal_short s passes)
kind_small kind.Boolean d (b, it) other = rw it tt
kind_small kind.Date d (s, passes, it) other = rw it (date_short s passes)
kind_small kind.Instant d (n, passes, it) other = rw it tt
kind_small kind.Ref d (s, passes, it) other = rw it (name_short s passes)
kind_small _ d none other = absurd none

items_small : (ds : List Data) → AllByRecursion (λ d. IsSmall (datum_json d)) ds → AreSmallItems (seen.items_of (map datum_json ds))
items_small [] all = tt
items_small (d ∷ ds) all = (all.0, items_small ds all.1)

entries_small : (es : List (List ℕ × Data)) → AllByRecursion (λ e. (length e.0 ≤ 65536) × IsSmall (datum_json e.1)) es → AreSmall (members_of (map entry_json es))
entries_small [] all = tt
entries_small (e ∷ es) all = (all.0.0, all.0.1, entries_small es all.1)

content_small : (c d : Data) (b : Bool) → is_null c ≡ b → IsWritten c → IsSmall (datum_json c) → d ≡ datum.optional c → IsSmall (datum_json d)
content_small c d true is h small it = rw (optional_null c d (null_is c is) it) ((omega arith), tt)
content_small c d false is h small it = rw (optional_some c d is h it) ((omega arith), (small, tt))

abbrev IsSmallDatum : Data → Type 0
IsSmallDatum d = IsSmall (datum_json d)

use_small : (N : Referring) (u : TypeUse) (d : Data) → IsOfUse N u d → IsSmallDatum d
use_small N texts d (s, few, it) = rw it few
use_small N integers d of = kind_small kind.Integer d of (λ e. cc)
use_small N decimals d of = kind_small kind.Decimal d of (λ e. cc)
use_small N booleans d of = kind_small kind.Boolean d of (λ e. cc)
use_small N dates d of = kind_small kind.Date d of (λ e. cc)
use_small N instants d of = kind_small kind.Instant d of (λ e. cc)
use_small N (references type) d (s, passes, named, it) = rw it (name_short s passes)
use_small N (lists u) d (ds, few, all, it) =
    let small = items_small ds (each_of (Fits N u) IsSmallDatum ds (null_or (IsOfUse N u) IsSmallDatum tt (λ x of. use_small N u x of)) all) in
    let count : length (listed (seen.items_of (map datum_json ds))) ≤ 65536 = rw (listed_back (map datum_json ds), length-map) few in
    subst IsSmall (sym (list_is N u ds d all it)) (count, small)
use_small N (maps u) d (es, few, ascending, all, it) =
    let small = entries_small es (each_of (λ e. (length e.0 ≤ 65536) × Fits N u e.1) (λ e. (length e.0 ≤ 65536) × IsSmallDatum e.1) es (λ e fits. (fits.0, null_or (IsOfUse N u) IsSmallDatum tt (λ x of. use_small N u x of) e.1 fits.1)) all) in
    let count : length (pairs (members_of (map entry_json es))) ≤ 65536 = rw (pairs_back (map entry_json es), length-map) few in
    subst IsSmall (sym (map_is N u es d ascending all it)) (count, small)
use_small N (optionals u) d (c, fits, it) =
    content_small c d (is_null c) refl (fits_writable N u c fits) (null_or (IsOfUse N u) IsSmallDatum tt (λ x of. use_small N u x of) c fits) it

pub fits_small : (N : Referring) (u : TypeUse) (d : Data) → Fits N u d → IsSmall (datum_json d)
fits_small N u d fits = null_or (IsOfUse N u) IsSmallDatum tt (use_small N u) d fits
