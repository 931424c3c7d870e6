-- What the JSON of a bundle gives by its names, whatever form the rest has.
use Rattle.std.specs.Prelude.{ℕ, List, [], map, codes, unwrap_or}
use Rattle.std.specs.Option.{option_map_or}
use Rattle.serde_json.specs.Data as json
use Rattle.serde_json.specs.Find.{as_str, as_object}
use Rattle.fv_datum.specs.Forms.{required}
use Rattle.fv_datum.specs.Members.{pairs}
use Rattle.fv_bundle.specs.Names.{ObjectTypes}

-- the objects by their names, in order: none where they aren't given
abbrev pub objects_in : json.Data → List (List ℕ × json.Data)
objects_in j = option_map_or pairs (required as_object (codes "objects") j) []

-- the root's name: empty where it isn't given
abbrev pub root_in : json.Data → List ℕ
root_in j = unwrap_or (required as_str (codes "root") j) []

-- the name of an object's type: empty where it isn't given
abbrev pub type_in : json.Data → List ℕ
type_in o = unwrap_or (required as_str (codes "type") o) []

-- the data that are given for an object's fields, in order: none where there are no fields
abbrev pub fields_in : json.Data → List (List ℕ × json.Data)
fields_in o = option_map_or pairs (required as_object (codes "fields") o) []

-- the names of the objects, each with the name of its type
abbrev pub types_in : json.Data → ObjectTypes
types_in j = map (λ o. (o.0, type_in o.1)) (objects_in j)
