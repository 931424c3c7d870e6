-- The data of a type use that JSON spells.
use Rattle.std.specs.Prelude.{ℕ, List, map as each, Option, Some, None, option_map, option_and_then, if◌then◌else◌}
use Rattle.serde_json.specs.Data as json
use Rattle.serde_json.specs.Find.{as_array}
use Rattle.fv_datum.specs.Data.{Data, null, text, list, map, optional, items_of, entries_of}
use Rattle.fv_datum.specs.Forms.{each_item, each_member}
use Rattle.fv_datum.specs.Json.{is_null_json, plain}
use Rattle.fv_bundle.specs.Types.{TypeUse, lists, maps, optionals, kind_of}

-- a list of these items
abbrev pub list_of : List Data → Data
list_of ds = list (items_of ds)

-- a map from these texts to these data
abbrev pub map_of : List (List ℕ × Data) → Data
map_of es = map (entries_of (each (λ e. (text e.0, e.1)) es))

-- null for `null`, and else what the value is read as
abbrev pub or_null : json.Data → Option Data → Option Data
or_null j read = if is_null_json j then Some null else read

-- a member's name, with what its value is read as
abbrev pub entry_read : (json.Data → Option Data) → List ℕ × json.Data → Option (List ℕ × Data)
entry_read f m = option_map (λ d. (m.0, d)) (f m.1)

-- what the only item of an array is read as, none for `null`; null where there is no item
abbrev pub only_item : (json.Data → Option Data) → json.Items → Option Data
only_item f json.no_items = Some null
only_item f (json.item j json.no_items) = if is_null_json j then None else f j
only_item f (json.item j (json.item k js)) = None

-- the datum of a type use that a JSON value spells: null is null. A list is an array of what its items are, a map an object
-- of what its values are, and an optional an array of what it holds, or of nothing
abbrev pub datum_of : TypeUse → json.Data → Option Data
datum_of (lists held) j = or_null j (option_map list_of (each_item (datum_of held) j))
datum_of (maps held) j = or_null j (option_map map_of (each_member (entry_read (datum_of held)) j))
datum_of (optionals held) j = or_null j (option_map optional (option_and_then (only_item (datum_of held)) (as_array j)))
datum_of type_use j = or_null j (plain (kind_of type_use) j)
