-- The check of a card's number.
use Rattle.std.specs.Prelude.{ℕ, ◌+◌, ◌-◌, ◌*◌, ◌%◌, ◌==◌, ◌&&◌, List, [], ◌∷◌, Bool, true, false, if◌then◌else◌, nat_lt, reverse}
use Rattle.fv_datum.specs.Data.{Data, null, text}
use Rattle.fv_datum.specs.Decimals.{are_digits}

-- the number of an ASCII digit
abbrev pub digit : ℕ → ℕ
digit b = b - 48

-- twice a digit, less 9 where above 9
abbrev pub doubled : ℕ → ℕ
doubled d = if nat_lt 9 (2 * d) then 2 * d - 9 else 2 * d

-- the sum of digits, of which every second one is doubled
abbrev pub luhn_sum : List ℕ → ℕ
luhn_sum [] = 0
luhn_sum (a ∷ []) = digit a
luhn_sum (a ∷ (b ∷ bs)) = digit a + doubled (digit b) + luhn_sum bs

-- one or more digits, whose sum from the right is a multiple of 10
abbrev pub luhn_text : List ℕ → Bool
luhn_text s = are_digits s && (luhn_sum (reverse s) % 10 == 0)

-- null, or a text that passes the check
abbrev pub luhn : Data → Bool
luhn null = true
luhn (text s) = luhn_text s
luhn _ = false
