-- The attributes of a constraint.
use Rattle.std.specs.Prelude.{ℕ, ℤ, List, Bool, Option, Some, None, map, String, string_bytes}
use Rattle.std.specs.declared.alloc.Global.{Global}
use Rattle.fv_datum.specs.declared.attrs.Attribute.{Attribute}
use Rattle.fv_datum.specs.declared.attrs.Attribute.TheVariants as v

-- what an attribute's value is, without where it lies in memory
pub data AttributeValue : Type 0 where
  integer : ℤ → AttributeValue
  text : List ℕ → AttributeValue
  boolean : Bool → AttributeValue
  texts : List (List ℕ) → AttributeValue

-- the integer that a value is, if it is one
abbrev pub integer_in : AttributeValue → Option ℤ
integer_in (integer n) = Some n
integer_in _ = None

-- the text that a value is, if it is one
abbrev pub text_in : AttributeValue → Option (List ℕ)
text_in (text s) = Some s
text_in _ = None

-- the boolean that a value is, if it is one
abbrev pub boolean_in : AttributeValue → Option Bool
boolean_in (boolean b) = Some b
boolean_in _ = None

-- names with values: a finite map where the names ascend by their bytes, which `ascends` tests
abbrev pub Attributes : Type 0
Attributes = List (List ℕ × AttributeValue)

-- an attribute's value as contracts see it
abbrev pub attribute_view : Attribute → AttributeValue
attribute_view (v.Integer n) = integer n
attribute_view (v.Text s) = text (string_bytes s)
attribute_view (v.Boolean b) = boolean b
attribute_view (v.Texts ts) = texts (map string_bytes ts.items)

-- an attribute with its name
abbrev pub entry_view : String Global × Attribute → List ℕ × AttributeValue
entry_view e = (string_bytes e.0, attribute_view e.1)
