-- Words that are looked through one by one.
use Rattle.std.proofs.Common.{◌≡◌, ◌||◌, ℕ, ◌+◌, ◌<◌, List, length, get_or, drop, map, refl, add-one, drop-cons, string_bytes, Global}
use Rattle.std.specs.Str.{bytes_eq}
use Rattle.std.specs.declared.string.String.{String}
use Rattle.fv_house.specs.Words.{is_among}

pub turn : (text : List ℕ) (xs : List (String Global)) (i : ℕ) (x : String Global) → i < length xs → x ≡ get_or xs i x
    → is_among text (map string_bytes (drop i xs)) ≡ (bytes_eq text (string_bytes x) || is_among text (map string_bytes (drop (i + 1) xs)))
turn text xs i x h is = rw (add-one, drop-cons xs i x h, ← is) refl
