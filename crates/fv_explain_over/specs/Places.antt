-- The texts of places.
use Rattle.std.specs.Prelude.{ℕ, ◌^◌, ◌-◌, ◌∷◌, ◌++◌, [], List, Bool, ◌||◌, ◌&&◌, ◌==◌, nat_lt, nat_le, false, codes, encode_utf8, flat_map, if◌then◌else◌, decimal}
use Rattle.std.specs.Fmt.{digits, format_spec, padded_integral}
use Rattle.std.specs.Str.{chars}
use Rattle.fv_datum.specs.Name.{names}

-- a control character, or one that separates lines or paragraphs
abbrev pub ends_line : ℕ → Bool
ends_line c = nat_lt c 32 || (nat_le 127 c && nat_le c 159) || (nat_le 8232 c && nat_le c 8233)

-- a number in four hexadecimal digits
abbrev pub four_digits : ℕ → List ℕ
four_digits n = padded_integral (format_spec 32 0 4 4 (2 ^ 64 - 1)) false [] (digits 16 false n)

-- a character of a JSON string
abbrev pub quoted_character : ℕ → List ℕ
quoted_character c =
    if c == 34 then codes "\\\"" else (if c == 92 then codes "\\\\"
    else (if ends_line c then codes "\\u" ++ four_digits c else encode_utf8 c))

-- a text as a JSON string in which no character ends a line
abbrev pub quoted : List ℕ → List ℕ
quoted text = 34 ∷ (flat_map quoted_character (chars text) ++ 34 ∷ [])

-- the place of a member whose name is one: behind a dot, unless it is the first
abbrev pub named : List ℕ → List ℕ → List ℕ
named [] name = name
named place name = place ++ (46 ∷ name)

-- the place of a member of what stands at a place: a name that is none stands in brackets, as a JSON string
abbrev pub inside : List ℕ → List ℕ → List ℕ
inside place name = if names name then named place name else place ++ (91 ∷ (quoted name ++ 93 ∷ []))

-- the place of an item of the array that stands at a place
abbrev pub item : List ℕ → ℕ → List ℕ
item place index = place ++ (91 ∷ (decimal index ++ 93 ∷ []))

-- the place that names lead to from a place
abbrev pub place_from : List ℕ → List (List ℕ) → List ℕ
place_from place [] = place
place_from place (name ∷ names) = place_from (inside place name) names

-- the place that names lead to
abbrev pub place_of : List (List ℕ) → List ℕ
place_of = place_from []
