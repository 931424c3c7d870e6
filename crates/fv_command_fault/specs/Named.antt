-- What a request names that has to be there.
use Rattle.std.specs.Prelude.{◌≡◌, ℕ, List, [], IfSome, Option, Some, None, option_map, option_and_then}
use Rattle.fv_bundle.specs.Bundles.{Bundled}
use Rattle.fv_engine_command.specs.Commands.{Request, put, set, remove, alone, get, check, check_field, check_value, list}
use Rattle.fv_datum.specs.Lookup.{at_name}
use Rattle.fv_bundle.specs.Types.{Declared, TypeUse}
use Rattle.fv_store.specs.Records.{Records}

-- the form of a put by itself and of a list
abbrev pub form_of : Request → Option (List ℕ)
form_of (alone (put id form j)) = Some form
form_of (list form after limit) = Some form
form_of _ = None

-- the id at which there has to be a record: of a set or a remove by itself, of a get, a check and a checkfield
abbrev pub id_of : Request → Option (List ℕ)
id_of (alone (set id object field j)) = Some id
id_of (alone (remove id)) = Some id
id_of (get id) = Some id
id_of (check id names) = Some id
id_of (check_field id object field names) = Some id
id_of _ = None

-- the names of the groups that a check of any sort asks for; none of another request
abbrev pub names_of : Request → List (List ℕ)
names_of (check id names) = names
names_of (check_field id object field names) = names
names_of (check_value type field j names) = names
names_of _ = []

-- the bundle of the record at that id, or none where there is no record; of a request without such an id, whatever
abbrev pub IsStored : Records → Request → Option Bundled → Type 0
IsStored m r b = IfSome (id_of r) (λ id. option_map (λ k. k.bundle) (m id) ≡ b)

-- what the field of a name in the type of a name holds; none where the type isn't declared or has no such field
abbrev pub field_in : Declared → List ℕ → List ℕ → Option TypeUse
field_in types type field = option_and_then (at_name field) (at_name type types)
