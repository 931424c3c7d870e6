-- The attributes that uses of constraints give, as they are written.
use Rattle.std.specs.Prelude.{ℕ, List, Option, Some, None, option_map}
use Rattle.serde_json.specs.Data as json
use Rattle.serde_json.specs.Find.{as_str}
use Rattle.fv_datum.specs.Attributes.{AttributeValue, integer, text, boolean, texts}
use Rattle.fv_datum.specs.Json.{whole_of}
use Rattle.fv_datum.specs.Members.{listed, each_some}

-- an attribute's value: a 64-bit whole number, a text, a boolean or a list of texts
abbrev pub attribute_of : json.Data → Option AttributeValue
attribute_of (json.number n) = option_map integer (whole_of n)
attribute_of (json.string s) = Some (text s)
attribute_of (json.boolean b) = Some (boolean b)
attribute_of (json.array js) = option_map texts (each_some as_str (listed js))
attribute_of _ = None

-- an attribute's value with its name
abbrev pub attr_of : List ℕ × json.Data → Option (List ℕ × AttributeValue)
attr_of m = option_map (λ a. (m.0, a)) (attribute_of m.1)
