-- Attributes in plain text.
use Rattle.std.specs.Prelude.{ℕ, List, ◌++◌, if◌then◌else◌, codes, flat_map}
use Rattle.std.specs.Fmt.{signed_decimal}
use Rattle.std.specs.List.{join_by}
use Rattle.fv_datum.specs.Attributes.{Attributes, AttributeValue, integer, text, boolean, texts}
use Rattle.fv_explain_faults.specs.Quoted.{quoted}

-- texts as an array of JSON strings
abbrev pub texts_text : List (List ℕ) → List ℕ
texts_text ts = codes "[" ++ (join_by quoted (codes ",") ts ++ codes "]")

-- an attribute's value
abbrev pub value_text : AttributeValue → List ℕ
value_text (integer n) = signed_decimal n
value_text (text s) = quoted s
value_text (boolean b) = if b then codes "true" else codes "false"
value_text (texts ts) = texts_text ts

-- an attribute with its name
abbrev pub attribute_text : List ℕ × AttributeValue → List ℕ
attribute_text a = codes " " ++ (a.0 ++ (codes "=" ++ value_text a.1))

-- attributes, as ` max=3 min=1`
abbrev pub attributes_text : Attributes → List ℕ
attributes_text attributes = flat_map attribute_text attributes
