-- Type uses that hold the same, as a test; for private clauses.
use Rattle.std.specs.Prelude.{Bool, true, false}
use Rattle.std.specs.Option.{option_map_or}
use Rattle.std.specs.Str.{bytes_eq}
use Rattle.fv_bundle.specs.Held.{target, items, values, content}
use Rattle.fv_bundle.specs.Types.{TypeUse, texts, integers, decimals, booleans, dates, instants, references, lists, maps, optionals}

-- both hold data of one kind: references to one type, and lists, maps and optionals of the same
abbrev pub is_same : TypeUse → TypeUse → Bool
is_same texts texts = true
is_same integers integers = true
is_same decimals decimals = true
is_same booleans booleans = true
is_same dates dates = true
is_same instants instants = true
is_same (references type) v = option_map_or (bytes_eq type) (target v) false
is_same (lists u) v = option_map_or (is_same u) (items v) false
is_same (maps u) v = option_map_or (is_same u) (values v) false
is_same (optionals u) v = option_map_or (is_same u) (content v) false
is_same _ _ = false
