-- The texts that are decimals, and the numbers that they write.
use Rattle.std.specs.Prelude.{ℕ, ◌+◌, ◌-◌, ◌*◌, ◌^◌, ◌&&◌, ◌||◌, ◌==◌, List, [], ◌∷◌, drop, length, slice_index, Bool, true, not, nat_lt, nat_le, ℤ, pos, neg_ℤ, Option, Some, None, option_map, is_some, if◌then◌else◌}
use Rattle.std.specs.Char.{is_ascii_digit}
use Rattle.std.specs.List.{list_all}
use Rattle.std.specs.Str.Parse.{digits_value}

-- ---- the parts of a text

-- a minus stands first
abbrev pub is_negative : List ℕ → Bool
is_negative s = nat_lt 0 (length s) && (slice_index s 0 == 45)

-- what stands before the first point, all of it where there is none
abbrev pub before_point : List ℕ → List ℕ
before_point [] = []
before_point (b ∷ bs) = if b == 46 then [] else b ∷ before_point bs

-- what stands behind the first point, if there is one
abbrev pub behind_point : List ℕ → Option (List ℕ)
behind_point [] = None
behind_point (b ∷ bs) = if b == 46 then Some bs else behind_point bs

-- ---- which parts are allowed

-- one ASCII digit or more, and nothing else
abbrev pub are_digits : List ℕ → Bool
are_digits s = nat_lt 0 (length s) && list_all is_ascii_digit s

-- 0, or 1 to 18 digits of which the first is not 0
abbrev pub is_whole_part : List ℕ → Bool
is_whole_part s = are_digits s && nat_le (length s) 18 && ((length s == 1) || not (slice_index s 0 == 48))

-- none, or 1 to 9 digits
abbrev pub is_fraction : Option (List ℕ) → Bool
is_fraction None = true
is_fraction (Some s) = are_digits s && nat_le (length s) 9

-- ---- the number

-- a whole part, in units of 10^-9
abbrev pub whole_units : List ℕ → ℕ
whole_units s = digits_value 10 s * 10 ^ 9

-- a fraction, in units of 10^-9: k digits write a number of units of 10^-k
abbrev pub fraction_units : Option (List ℕ) → ℕ
fraction_units None = 0
fraction_units (Some s) = digits_value 10 s * 10 ^ (9 - length s)

-- a decimal without a sign: its number in units of 10^-9
abbrev pub unsigned_units : List ℕ → Option ℕ
unsigned_units s = if is_whole_part (before_point s) && is_fraction (behind_point s)
    then Some (digits_value 10 (before_point s) * 10 ^ 9 + fraction_units (behind_point s))
    else None

-- a decimal, perhaps a minus first: its number in units of 10^-9
abbrev pub decimal_units : List ℕ → Option ℤ
decimal_units s = if nat_lt 0 (length s) && (slice_index s 0 == 45)
    then option_map (λ n. neg_ℤ (pos n)) (unsigned_units (drop 1 s))
    else option_map (λ n. pos n) (unsigned_units s)

-- the text is a decimal
abbrev pub is_decimal : List ℕ → Bool
is_decimal s = is_some (decimal_units s)
