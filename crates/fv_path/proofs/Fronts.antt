-- The name and the digits that a text begins with.
use Rattle.std.proofs.Common.{◌≡◌, ℕ, ◌+◌, ◌<◌, ◌^◌, zero, suc, Bool, true, false, cond, List, [], ◌∷◌, ◌++◌, length, get_or, take, drop, Result, Ok, Err, IsUtf8, refl, sym, ap, ◌∙◌, subst, inl, inr, arith, append_assoc, decimal}
use Rattle.std.specs.Option.{MatchOption}
use Rattle.std.specs.Result.{result_ok}
use Rattle.std.specs.Str.{IsAscii}
use Rattle.std.specs.Str.Parse.{ParsesUnsigned, digits_value}
use Rattle.std.specs.List.{list_all, prefix_len, take_while}
use Rattle.std.specs.Char.{is_ascii_digit}
use Rattle.std.proofs.lemmas.Bool.{and_parts, cases_eq, ltb-true, false≢true}
use Rattle.std.proofs.lemmas.Bool.Decides.{nat_tests}
use Rattle.std.proofs.lemmas.List.{take-append-drop, append_cancel_left}
use Rattle.std.proofs.lemmas.List.Sums.{take_while-cons}
use Rattle.std.proofs.lemmas.Str.{IsUtf8-from_ascii}
use Rattle.std.proofs.lemmas.Str.Parse.{parse_digits}
use Rattle.std.proofs.lemmas.Fmt.{digits_decimal, digits_value-decimal, decimal_nonempty, decimal_digit, first_decimal, decimal-digits_value}
use Rattle.fv_datum.specs.Name.{names, continues_name}
use Rattle.fv_path.specs.Nodes.{field, index, key, list_element, map_key, map_value, is_field, is_index}
use Rattle.fv_path.specs.Texts.{node_text}
use Rattle.fv_path.specs.Reading.{stops, Begins, BeginsWithNone}
use Rattle.fv_path.proofs.Determined.{digits, named, take_while_all, stops_end}

-- ASCII bytes are UTF-8
ascii_bytes : (p : ℕ → Bool) → ((b : ℕ) → p b ≡ true → b < 128) → (xs : List ℕ) → list_all p xs ≡ true → IsAscii xs
ascii_bytes p small [] all i = omega arith
ascii_bytes p small (x ∷ xs) all zero = small x (and_parts (p x) (list_all p xs) all).0
ascii_bytes p small (x ∷ xs) all (suc i) = ascii_bytes p small xs (and_parts (p x) (list_all p xs) all).1 i

name_byte : (b : ℕ) → continues_name b ≡ true → b < 128
name_byte b h = grind (arith, nat_tests)

digit_byte : (b : ℕ) → is_ascii_digit b ≡ true → b < 128
digit_byte b h = grind (arith, nat_tests)

pub name_utf8 : (n : List ℕ) → names n ≡ true → IsUtf8 n
name_utf8 n h = IsUtf8-from_ascii n (ascii_bytes continues_name name_byte n (named n h).continues)

pub digits_utf8 : (ds : List ℕ) → list_all is_ascii_digit ds ≡ true → IsUtf8 ds
digits_utf8 ds all = IsUtf8-from_ascii ds (ascii_bytes is_ascii_digit digit_byte ds all)

-- the front that passes a test passes it
front_on : (p : ℕ → Bool) (x : ℕ) (xs : List ℕ) (b : Bool) → b ≡ p x → list_all p xs ≡ true → list_all p (cond b (x ∷ xs) []) ≡ true
front_on p x xs true e more = rw (← e) more
front_on p x xs false e more = refl

pub front_passes : (p : ℕ → Bool) (xs : List ℕ) → list_all p (take_while p xs) ≡ true
front_passes p [] = refl
front_passes p (x ∷ xs) = ap (list_all p) (take_while-cons p x xs) ∙ front_on p x (take_while p xs) (p x) refl (front_passes p xs)

-- what stands behind the front of a name doesn't go on with it
rest_on : (x : ℕ) (xs : List ℕ) (b : Bool) (n : ℕ) → b ≡ continues_name x → stops (drop n xs) ≡ true → stops (drop (cond b (1 + n) 0) (x ∷ xs)) ≡ true
rest_on x xs true n e more = let next : 1 + n ≡ suc n = omega arith in rw next more
rest_on x xs false n e more = rw (← e) refl

pub rest_stops : (xs : List ℕ) → stops (drop (prefix_len continues_name xs) xs) ≡ true
rest_stops [] = refl
rest_stops (x ∷ xs) = rest_on x xs (continues_name x) (prefix_len continues_name xs) refl (rest_stops xs)

-- the front of a text that a list begins is that list
pub front_is : (p : ℕ → Bool) (text xs r : List ℕ) → text ≡ xs ++ r → take_while p (xs ++ r) ≡ xs → take (prefix_len p text) text ≡ xs
front_is p text xs r e whole = ap (take_while p) e ∙ whole

pub field_begins : (text name rest : List ℕ) (n : ℕ) → n ≡ prefix_len continues_name text → name ≡ take n text → rest ≡ drop n text → names name ≡ true
    → Begins (46 ∷ text) (field name) rest
field_begins text name rest n len front back ok = record {
  node = ok;
  split = ap (λ l. 46 ∷ l) (sym (take-append-drop n text) ∙ ap (λ l. l ++ drop n text) (sym front) ∙ ap (λ l. name ++ l) (sym back));
  closed = ap stops back ∙ ap (λ k. stops (drop k text)) len ∙ rest_stops text;
}

-- a text behind a dot that a field begins has the field's name as its front
pub field_missing : (text name : List ℕ) (n : ℕ) → n ≡ prefix_len continues_name text → name ≡ take n text → (IsUtf8 name → names name ≡ true → ⊥)
    → BeginsWithNone is_field (46 ∷ text)
field_missing text name n len front none (field m) rest kind b =
    let split : text ≡ m ++ rest = ap (drop 1) b.split in
    let whole = take_while_all continues_name m rest (named m b.node).continues (stops_end rest b.closed) in
    let same : name ≡ m = front ∙ ap (λ k. take k text) len ∙ front_is continues_name text m rest split whole in
    none (rw same (name_utf8 m b.node)) (rw same b.node)
field_missing text name n len front none (index i) rest kind b = false≢true kind
field_missing text name n len front none (key k) rest kind b = false≢true kind
field_missing text name n len front none list_element rest kind b = false≢true kind
field_missing text name n len front none map_key rest kind b = false≢true kind
field_missing text name n len front none map_value rest kind b = false≢true kind

-- an index is written without a leading zero
pub no_leading_zero : (n : ℕ) → n < 2 ^ 32 → get_or (decimal n) 0 0 ≡ 48 → 1 < length (decimal n) → ⊥
no_leading_zero n small first long = elim (cases_eq n 0) [
  | inl zero_is ↦
      let one : length (decimal n) ≡ 1 = ap (λ k. length (decimal k)) zero_is ∙ ap length (decimal_digit 0 (omega arith)) in
      omega arith
  | inr other ↦ omega (arith, first_decimal n (omega arith) (omega arith))
]

-- what digits without a leading zero are read as, and that they are written again
pub index_read : {E : Type 0} (ds : List ℕ) (r : Result ℕ E) → list_all is_ascii_digit ds ≡ true → (get_or ds 0 0 ≡ 48 → 1 < length ds → ⊥) → ParsesUnsigned 32 10 ds r
    → MatchOption (result_ok r) ((n : ℕ) → n < 2 ^ 32 → ds ≡ decimal n → ⊥) (λ n. ds ≡ decimal n)
index_read {E} ds (Ok x) all plain parsed =
    let h = parse_digits digits {E = E} 32 ds (Ok x) parsed all in
    let single : get_or ds 0 0 ≡ 48 → length ds ≡ 1 = λ first. elim (cases_eq (length ds) 1) [ inl e ↦ e | inr ne ↦ absurd (plain first (omega (arith, h.0.0))) ] in
    sym (ap decimal h.1 ∙ decimal-digits_value digits ds all h.0.0 single (omega (arith, h.0.1)))
index_read {E} ds (Err e) all plain parsed = λ n small is.
    let h = parse_digits digits {E = E} 32 ds (Err e) parsed all in
    h (subst (λ l. 0 < length l) (sym is) (decimal_nonempty n (omega arith)), subst (λ l. digits_value 10 l < 2 ^ 32) (sym is) (subst (λ v. v < 2 ^ 32) (sym (digits_value-decimal digits n (omega arith))) small))

-- a text behind a bracket that an index begins has the index's digits as its front
pub index_split : (text rest : List ℕ) (i : ℕ) → 91 ∷ text ≡ node_text (index i) ++ rest → text ≡ decimal i ++ 93 ∷ rest
index_split text rest i e = ap (drop 1) e ∙ append_assoc (decimal i) (93 ∷ []) rest

pub index_front : (text rest : List ℕ) (i : ℕ) → i < 2 ^ 32 → text ≡ decimal i ++ 93 ∷ rest → take (prefix_len is_ascii_digit text) text ≡ decimal i
index_front text rest i small e = front_is is_ascii_digit text (decimal i) (93 ∷ rest) e (take_while_all is_ascii_digit (decimal i) (93 ∷ rest) (digits_decimal digits i (omega arith)) refl)

-- no index stands there: its digits are none, or no bracket follows them
pub index_missing : (text ds rest : List ℕ) (n : ℕ) → n ≡ prefix_len is_ascii_digit text → ds ≡ take n text → rest ≡ drop n text
    → ((i : ℕ) (more : List ℕ) → i < 2 ^ 32 → ds ≡ decimal i → rest ≡ 93 ∷ more → ⊥) → BeginsWithNone is_index (91 ∷ text)
index_missing text ds rest n len front back none (index i) more kind b =
    let small = ltb-true i (2 ^ 32) b.node in
    let split = index_split text more i b.split in
    let same : ds ≡ decimal i = front ∙ ap (λ k. take k text) len ∙ index_front text more i small split in
    let whole : ds ++ rest ≡ text = ap (λ l. l ++ rest) front ∙ ap (λ l. take n text ++ l) back ∙ take-append-drop n text in
    none i more small same (append_cancel_left ds rest (93 ∷ more) (whole ∙ split ∙ ap (λ l. l ++ 93 ∷ more) (sym same)))
index_missing text ds rest n len front back none (field m) more kind b = false≢true kind
index_missing text ds rest n len front back none (key k) more kind b = false≢true kind
index_missing text ds rest n len front back none list_element more kind b = false≢true kind
index_missing text ds rest n len front back none map_key more kind b = false≢true kind
index_missing text ds rest n len front back none map_value more kind b = false≢true kind
