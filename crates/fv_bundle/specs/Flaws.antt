-- What can be wrong with a given datum.
use Rattle.std.specs.Prelude.{◌≡◌, ℕ, ◌||◌, List, [], length, Bool, false, not, nat_lt, Option, Some, is_some}
use Rattle.std.specs.List.{list_any}
use Rattle.std.specs.Option.{option_map_or}
use Rattle.std.specs.Str.{bytes_eq}
use Rattle.serde_json.specs.Data as json
use Rattle.serde_json.specs.Find.{as_str, as_array, as_object}
use Rattle.fv_datum.specs.Lookup.{at_name}
use Rattle.fv_datum.specs.Members.{pairs, listed}
use Rattle.fv_bundle.specs.TypeLimits.{longest_text, most_entries}
use Rattle.fv_bundle.specs.Names.{ObjectTypes}
use Rattle.fv_bundle.specs.Spelled.{datum_of}
use Rattle.fv_bundle.specs.Types.{TypeUse, texts, references, lists, maps, optionals}

-- a test of a datum that is given, and of what its field holds: None where the object's type has no such field
abbrev pub Flaw : Type 0
Flaw = Option TypeUse → json.Data → Bool

-- its object's type has no such field
abbrev pub undeclared : Flaw
undeclared type_use j = not (is_some type_use)

-- it isn't of its field's type use
abbrev pub misfits : Flaw
misfits type_use j = option_map_or (λ u. not (is_some (datum_of u j))) type_use false

-- ---- flaws that stand in containers too

-- the items of an array
abbrev pub items_in : json.Data → List json.Data
items_in j = option_map_or listed (as_array j) []

-- the members of an object
abbrev pub members_in : json.Data → List (List ℕ × json.Data)
members_in j = option_map_or pairs (as_object j) []

-- a value of a type use passes a test, or one that stands in it does
abbrev pub anywhere : (TypeUse → json.Data → Bool) → TypeUse → json.Data → Bool
anywhere test (lists held) j = test (lists held) j || list_any (anywhere test held) (items_in j)
anywhere test (maps held) j = test (maps held) j || list_any (λ m. anywhere test held m.1) (members_in j)
anywhere test (optionals held) j = test (optionals held) j || list_any (anywhere test held) (items_in j)
anywhere test type_use j = test type_use j

-- the same of a given datum; false where the object's type has no such field
abbrev pub somewhere : (TypeUse → json.Data → Bool) → Flaw
somewhere test type_use j = option_map_or (λ u. anywhere test u j) type_use false

-- another type than this one
abbrev pub is_other : List ℕ → Option (List ℕ) → Bool
is_other type own = option_map_or (λ t. not (bytes_eq type t)) own false

-- a reference passes a test of the type that it is to and of the name that it is
abbrev pub referring : (List ℕ → List ℕ → Bool) → TypeUse → json.Data → Bool
referring test (references type) j = option_map_or (test type) (as_str j) false
referring test _ j = false

-- a text of more than 65,536 bytes
abbrev pub is_long : List ℕ → Bool
is_long s = nat_lt longest_text (length s)

-- a text that is too long, a list of more than 65,536 items, or a map of more than 65,536 entries or with a key that is too long
abbrev pub is_over : TypeUse → json.Data → Bool
is_over texts j = option_map_or is_long (as_str j) false
is_over (lists held) j = nat_lt most_entries (length (items_in j))
is_over (maps held) j = nat_lt most_entries (length (members_in j)) || list_any (λ m. is_long m.0) (members_in j)
is_over _ j = false

-- there is a reference to no object in it
abbrev pub dangles : ObjectTypes → Flaw
dangles types = somewhere (referring (λ type name. not (is_some (at_name name types))))

-- there is a reference to an object of another type in it
abbrev pub strays : ObjectTypes → Flaw
strays types = somewhere (referring (λ type name. is_other type (at_name name types)))

-- there is a text, a key, a list or a map in it that is too large
abbrev pub is_large : Flaw
is_large = somewhere is_over

-- nothing is wrong with any value that is given for the type use but, perhaps, its kind
abbrev pub IsNeverFlawed : TypeUse → Type 0
IsNeverFlawed u = (types : ObjectTypes) (j : json.Data) → (dangles types (Some u) j ≡ false) × (strays types (Some u) j ≡ false) × (is_large (Some u) j ≡ false)
