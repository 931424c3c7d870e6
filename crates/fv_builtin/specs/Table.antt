-- What each built-in constraint takes: its attributes with their kinds and defaults, and the kinds of data that it is on.
use Rattle.std.specs.Prelude.{ℕ, pos, List, [], ◌∷◌, Bool, true, false, Option, Some, None, option_map, option_and_then, map, filter, not, is_some, codes}
use Rattle.fv_datum.specs.AttributeKinds.{attribute_kind}
use Rattle.fv_datum.specs.Attributes.{AttributeValue, integer, boolean}
use Rattle.fv_datum.specs.Lookup.{at_name}
use Rattle.fv_datum.specs.declared.attribute_kind.AttributeKind.{AttributeKind}
use Rattle.fv_datum.specs.declared.attribute_kind.AttributeKind.TheVariants as attribute
use Rattle.fv_datum.specs.declared.kind.Kind.{Kind}
use Rattle.fv_datum.specs.declared.kind.Kind.TheVariants as kind
use Rattle.fv_builtin.specs.declared.name.BuiltinName.{BuiltinName}
use Rattle.fv_builtin.specs.declared.name.BuiltinName.TheVariants.{Null, NotNull, AssertTrue, AssertFalse, Min, Max, DecimalMin, DecimalMax, Positive, PositiveOrZero, Negative, NegativeOrZero, Digits, Size, NotEmpty, NotBlank, Past, PastOrPresent, Future, FutureOrPresent, Pattern}

-- ---- attributes

-- an attribute that must be given: its name and its kind
abbrev pub required_of : List ℕ → AttributeKind → List ℕ × (AttributeKind × Option AttributeValue)
required_of name k = (name, (k, None))

-- an attribute with a default: its name and the default
abbrev pub defaulted : List ℕ → AttributeValue → List ℕ × (AttributeKind × Option AttributeValue)
defaulted name value = (name, (attribute_kind value, Some value))

-- the attributes of a constraint by their names, each with its kind and its default if it has one
abbrev pub attributes_of : BuiltinName → List (List ℕ × (AttributeKind × Option AttributeValue))
attributes_of Min = required_of (codes "value") attribute.Integer ∷ []
attributes_of Max = required_of (codes "value") attribute.Integer ∷ []
attributes_of DecimalMin = required_of (codes "value") attribute.Text ∷ defaulted (codes "inclusive") (boolean true) ∷ []
attributes_of DecimalMax = required_of (codes "value") attribute.Text ∷ defaulted (codes "inclusive") (boolean true) ∷ []
attributes_of Digits = required_of (codes "integer") attribute.Integer ∷ required_of (codes "fraction") attribute.Integer ∷ []
attributes_of Size = defaulted (codes "min") (integer (pos 0)) ∷ defaulted (codes "max") (integer (pos 2147483647)) ∷ []
attributes_of Pattern = required_of (codes "regexp") attribute.Text ∷ []
attributes_of _ = []

-- the kind of a constraint's attribute, if it has one of that name
abbrev pub kind_of_attribute : BuiltinName → List ℕ → Option AttributeKind
kind_of_attribute which name = option_map (λ a. a.0) (at_name name (attributes_of which))

-- the names of the attributes that a constraint has no default for
abbrev pub required_attributes : BuiltinName → List (List ℕ)
required_attributes which = map (λ a. a.0) (filter (λ a. not (is_some a.1.1)) (attributes_of which))

-- the default of a constraint's attribute, if it has one
abbrev pub default_of : BuiltinName → List ℕ → Option AttributeValue
default_of which name = option_and_then (λ a. a.1) (at_name name (attributes_of which))

-- ---- kinds

-- integers and decimals
abbrev pub is_number_kind : Kind → Bool
is_number_kind kind.Integer = true
is_number_kind kind.Decimal = true
is_number_kind _ = false

-- texts, lists and maps, which have a size
abbrev pub is_sized_kind : Kind → Bool
is_sized_kind kind.Text = true
is_sized_kind kind.List = true
is_sized_kind kind.Map = true
is_sized_kind _ = false

-- dates and instants
abbrev pub is_time_kind : Kind → Bool
is_time_kind kind.Date = true
is_time_kind kind.Instant = true
is_time_kind _ = false

-- the constraint is on data of a kind
abbrev pub takes : BuiltinName → Kind → Bool
takes Null k = true
takes NotNull k = true
takes AssertTrue kind.Boolean = true
takes AssertFalse kind.Boolean = true
takes Min k = is_number_kind k
takes Max k = is_number_kind k
takes DecimalMin k = is_number_kind k
takes DecimalMax k = is_number_kind k
takes Positive k = is_number_kind k
takes PositiveOrZero k = is_number_kind k
takes Negative k = is_number_kind k
takes NegativeOrZero k = is_number_kind k
takes Digits k = is_number_kind k
takes Size k = is_sized_kind k
takes NotEmpty k = is_sized_kind k
takes NotBlank kind.Text = true
takes Past k = is_time_kind k
takes PastOrPresent k = is_time_kind k
takes Future k = is_time_kind k
takes FutureOrPresent k = is_time_kind k
takes Pattern kind.Text = true
takes _ _ = false
