-- The size of a datum, and the characters of a text.
use Rattle.std.specs.Prelude.{ℕ, ◌+◌, List, Bool, not, nat_lt, Option, Some, None, if◌then◌else◌}
use Rattle.std.specs.Char.{is_whitespace}
use Rattle.std.specs.List.{sum_by, list_any}
use Rattle.std.specs.Str.{chars}
use Rattle.fv_datum.specs.Data.{Data, text, list, map, Items, no_items, item, Entries, no_entries, entry}

-- the UTF-16 code units of a character: one up to U+FFFF, else two
abbrev pub units_of : ℕ → ℕ
units_of c = if nat_lt c 65536 then 1 else 2

-- the UTF-16 code units of a text
abbrev pub utf16_size : List ℕ → ℕ
utf16_size s = sum_by units_of (chars s)

-- how many items a list has
abbrev pub item_count : Items → ℕ
item_count no_items = 0
item_count (item d ds) = item_count ds + 1

-- how many entries a map has
abbrev pub entry_count : Entries → ℕ
entry_count no_entries = 0
entry_count (entry k d es) = entry_count es + 1

-- the size of a text in UTF-16 code units, one for a character up to U+FFFF and else two, of a list or of a map; other data have none
abbrev pub size_of : Data → Option ℕ
size_of (text s) = Some (sum_by (λ c. if nat_lt c 65536 then 1 else 2) (chars s))
size_of (list ds) = Some (item_count ds)
size_of (map es) = Some (entry_count es)
size_of _ = None

-- some character is no white space
abbrev pub has_ink : List ℕ → Bool
has_ink s = list_any (λ c. not (is_whitespace c)) (chars s)
