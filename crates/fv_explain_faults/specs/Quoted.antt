-- The texts of values that are shown.
use Rattle.std.specs.Prelude.{ℕ, ◌^◌, ◌-◌, ◌∷◌, ◌++◌, [], List, Bool, ◌||◌, ◌&&◌, ◌==◌, nat_lt, nat_le, false, codes, encode_utf8, flat_map, if◌then◌else◌}
use Rattle.std.specs.Fmt.{digits, format_spec, padded_integral}
use Rattle.std.specs.Str.{chars}

-- a control character, or one that separates lines or paragraphs
abbrev pub ends_line : ℕ → Bool
ends_line c = nat_lt c 32 || (nat_le 127 c && nat_le c 159) || (nat_le 8232 c && nat_le c 8233)

-- a number in four hexadecimal digits
abbrev pub four_digits : ℕ → List ℕ
four_digits n = padded_integral (format_spec 32 0 4 4 (2 ^ 64 - 1)) false [] (digits 16 false n)

-- a character of a JSON string: a line feed, a carriage return and a tabulator have letters, and others that aren't shown their numbers
abbrev pub quoted_character : ℕ → List ℕ
quoted_character c =
    if c == 34 then codes "\\\"" else (if c == 92 then codes "\\\\"
    else (if c == 10 then codes "\\n" else (if c == 13 then codes "\\r" else (if c == 9 then codes "\\t"
    else (if ends_line c then codes "\\u" ++ four_digits c else encode_utf8 c)))))

-- a text as a JSON string in which no character ends a line
abbrev pub quoted : List ℕ → List ℕ
quoted text = 34 ∷ (flat_map quoted_character (chars text) ++ 34 ∷ [])
