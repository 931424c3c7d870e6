-- The kinds of attributes.
use Rattle.fv_datum.specs.Attributes.{AttributeValue, integer, text, boolean, texts}
use Rattle.fv_datum.specs.declared.attribute_kind.AttributeKind.{AttributeKind}
use Rattle.fv_datum.specs.declared.attribute_kind.AttributeKind.TheVariants.{Integer, Text, Boolean, Texts}

-- the kind of an attribute's value
abbrev pub attribute_kind : AttributeValue → AttributeKind
attribute_kind (integer n) = Integer
attribute_kind (text s) = Text
attribute_kind (boolean b) = Boolean
attribute_kind (texts ts) = Texts
