-- The number that digits write, one more at a time, and how large it gets.
use Rattle.std.proofs.Common.{◌≡◌, ℕ, ◌+◌, ◌-◌, ◌*◌, ◌^◌, ◌<◌, ◌≤◌, List, [], ◌∷◌, length, get_or, take, Bool, true, false, ◌&&◌, nat_le, Some, refl, arith}
use Rattle.std.proofs.Math.Nat.{one-le-pow, mul-lt-mul_of_pos_right, pow-le-pow_right}
use Rattle.std.proofs.lemmas.Nat.{pow-add}
use Rattle.std.proofs.lemmas.Bool.{leb-true}
use Rattle.std.proofs.lemmas.Bool.Decides.{nat_tests}
use Rattle.std.proofs.lemmas.Int.Digits.{digits_value-lt, digits_value_more}
use Rattle.std.proofs.lemmas.Str.{digit_value_digit}
use Rattle.std.proofs.lemmas.Str.Parse.{digits_value-take-le}
use Rattle.std.proofs.lemmas.List.Sums.{AllPass-from_list_all}
use Rattle.std.proofs.lemmas.List.Elements.{All-get_or}
use Rattle.std.specs.Char.{is_ascii_digit, digit_value}
use Rattle.std.specs.Int.{is_in_range}
use Rattle.std.specs.List.{list_all}
use Rattle.std.specs.Str.Parse.{AllDigits, digits_value}
use Rattle.fv_datum.specs.Decimals.{are_digits, is_whole_part, is_fraction}

in_range : (lo hi c : ℕ) → is_in_range lo hi c ≡ true → (lo ≤ c) × (c ≤ hi)
in_range lo hi c h = grind (arith, nat_tests)

both : (a b : Bool) → (a && b) ≡ true → (a ≡ true) × (b ≡ true)
both true b e = (refl, e)
both false b e = cc

-- a digit's byte, and its value
pub digit_is : (c : ℕ) → is_ascii_digit c ≡ true → (48 ≤ c) × (c ≤ 57) × (digit_value c ≡ c - 48)
digit_is c h =
    let r = in_range 48 57 c h in
    let v = digit_value_digit c r in
    (r.0, r.1, omega arith)

all_digits : (s : List ℕ) → list_all is_ascii_digit s ≡ true → AllDigits 10 s
all_digits [] e = tt
all_digits (c ∷ cs) e =
    let h = both (is_ascii_digit c) (list_all is_ascii_digit cs) e in
    let d = digit_is c h.0 in
    (omega arith, all_digits cs h.1)

-- so many digits write a number below that power of ten
pub digits_small : (s : List ℕ) → are_digits s ≡ true → digits_value 10 s < 10 ^ length s
digits_small s e = digits_value-lt 10 s (all_digits s (both _ (list_all is_ascii_digit s) e).1)

few : (n k : ℕ) → n ≤ k → 10 ^ n ≤ 10 ^ k
few n k h = pow-le-pow_right (omega arith) h

-- at most 18 of them a number below 10^18
pub digits_few : (s : List ℕ) → are_digits s ≡ true → length s ≤ 18 → digits_value 10 s < 10 ^ 18
digits_few s e h =
    let a = digits_small s e in
    let b = few (length s) 18 h in
    omega arith

digit_at : (s : List ℕ) (i : ℕ) → are_digits s ≡ true → i < length s → (48 ≤ get_or s i 0) × (get_or s i 0 ≤ 57) × (digit_value (get_or s i 0) ≡ get_or s i 0 - 48)
digit_at s i e h =
    let all = (both _ (list_all is_ascii_digit s) e).1 in
    digit_is (get_or s i 0) (All-get_or (λ c. is_ascii_digit c ≡ true) s i 0 h (AllPass-from_list_all is_ascii_digit s all))

-- one digit more, and that it stays small
pub record Step (s : List ℕ) (i : ℕ) : Type 0 where
  pub low : 48 ≤ get_or s i 0
  pub more : digits_value 10 (take (i + 1) s) ≡ digits_value 10 (take i s) * 10 + (get_or s i 0 - 48)
  pub small : digits_value 10 (take (i + 1) s) < 10 ^ 18

pub step : (s : List ℕ) (i : ℕ) → are_digits s ≡ true → length s ≤ 18 → i < length s → Step s i
step s i e few h =
    let d = digit_at s i e h in
    let more = digits_value_more 10 s i h in
    let part = digits_value-take-le 10 s (i + 1) (omega arith) in
    let all = digits_few s e few in
    record { low = d.0; more = rw d.2 at more; small = omega arith }

-- of so many digits behind the point, a number below 10^9 in units of 10^-9
pub fraction_small : (s : List ℕ) → are_digits s ≡ true → length s ≤ 9 → digits_value 10 s * 10 ^ (9 - length s) < 10 ^ 9
fraction_small s e h =
    let below : digits_value 10 s * 10 ^ (9 - length s) < 10 ^ length s * 10 ^ (9 - length s) = mul-lt-mul_of_pos_right (digits_small s e) (one-le-pow (9 - length s) 10 (omega arith)) in
    let whole : length s + (9 - length s) ≡ 9 = omega arith in
    rw (← pow-add 10 (length s) (9 - length s), whole) at below

pub whole_small : (s : List ℕ) → is_whole_part s ≡ true → digits_value 10 s < 10 ^ 18
whole_small s e =
    let all = both (are_digits s && nat_le (length s) 18) _ e in
    let few = both (are_digits s) _ all.0 in
    digits_few s few.0 (leb-true (length s) 18 few.1)

pub part_small : (s : List ℕ) → is_fraction (Some s) ≡ true → digits_value 10 s * 10 ^ (9 - length s) < 10 ^ 9
part_small s e =
    let all = both (are_digits s) _ e in
    fraction_small s all.0 (leb-true (length s) 9 all.1)
