-- The declared types.
use Rattle.std.specs.Prelude.{◌≢◌, ℕ, suc, List, [], ◌∷◌, map, length, slice_get, position, Bool, false, not, ◌||◌, nat_lt, Option, option_map, unwrap_or, is_some, String, string_bytes}
use Rattle.std.specs.List.{All, AllPairs, list_any}
use Rattle.std.specs.Str.{bytes_eq}
use Rattle.std.specs.HashMap.{HashMap}
use Rattle.std.specs.declared.alloc.Global.{Global}
use Rattle.std.specs.declared.hash.FoldHasher.{FoldHasher}
use Rattle.std.specs.declared.hash.BuildHasherDefault.{BuildHasherDefault}
use Rattle.fv_datum.specs.Outcomes.{first}
use Rattle.fv_datum.specs.Lookup.{at_name}
use Rattle.fv_datum.specs.declared.kind.Kind.{Kind}
use Rattle.fv_datum.specs.declared.kind.Kind.TheVariants as kind
use Rattle.fv_bundle.specs.TypeLimits.{most_fields, most_nested}
use Rattle.fv_bundle.specs.declared.type_use.TypeUse as code
use Rattle.fv_bundle.specs.declared.type_use.TypeUse.{fold-TypeUse}
use Rattle.fv_bundle.specs.declared.type_use.TypeUse.TheOpen.{TypeUse-F}
use Rattle.fv_bundle.specs.declared.fault.TypesFault.{TypesFault}
use Rattle.fv_bundle.specs.declared.fault.TypesFault.TheVariants.{UnknownType, TooLarge}

-- what a field of a type holds: data of a plain kind, the names of objects of a type, or lists, maps or optionals of what a
-- type use holds
pub data TypeUse : Type 0 where
  texts : TypeUse
  integers : TypeUse
  decimals : TypeUse
  booleans : TypeUse
  dates : TypeUse
  instants : TypeUse
  references : List ℕ → TypeUse
  lists : TypeUse → TypeUse
  maps : TypeUse → TypeUse
  optionals : TypeUse → TypeUse

-- the kind of the data that a field holds
abbrev pub kind_of : TypeUse → Kind
kind_of texts = kind.Text
kind_of integers = kind.Integer
kind_of decimals = kind.Decimal
kind_of booleans = kind.Boolean
kind_of dates = kind.Date
kind_of instants = kind.Instant
kind_of (references type) = kind.Ref
kind_of (lists held) = kind.List
kind_of (maps held) = kind.Map
kind_of (optionals held) = kind.Optional

-- how many containers stand one in another
abbrev pub nested : TypeUse → ℕ
nested (lists held) = suc (nested held)
nested (maps held) = suc (nested held)
nested (optionals held) = suc (nested held)
nested _ = 0

-- one level of a type use, with what it holds already seen
abbrev pub use_step : TypeUse-F TypeUse → TypeUse
use_step TypeUse-F.Text = texts
use_step TypeUse-F.Integer = integers
use_step TypeUse-F.Decimal = decimals
use_step TypeUse-F.Boolean = booleans
use_step TypeUse-F.Date = dates
use_step TypeUse-F.Instant = instants
use_step (TypeUse-F.Ref type) = references (string_bytes type)
use_step (TypeUse-F.List b) = lists b.value
use_step (TypeUse-F.Map b) = maps b.value
use_step (TypeUse-F.Optional b) = optionals b.value

-- what a type use says that a field holds
abbrev pub type_use_view : code.TypeUse → TypeUse
type_use_view = fold-TypeUse TypeUse use_step

-- a type's fields by their names, in the order of their numbers
abbrev pub DeclaredFields : Type 0
DeclaredFields = List (List ℕ × TypeUse)

-- the types by their names, in the order of their numbers
abbrev pub Declared : Type 0
Declared = List (List ℕ × DeclaredFields)

-- a map from texts, as the code has it
abbrev pub TextMap : Type 0 → Type 0
TextMap X = HashMap (String Global) X (BuildHasherDefault FoldHasher)

-- a field with what it holds
abbrev pub use_view : String Global × code.TypeUse → List ℕ × TypeUse
use_view e = (string_bytes e.0, type_use_view e.1)

-- the fields that a map has
abbrev pub fields_view : TextMap code.TypeUse → DeclaredFields
fields_view m = map use_view m.entries

-- a type with its fields
abbrev pub type_view : String Global × TextMap code.TypeUse → List ℕ × DeclaredFields
type_view e = (string_bytes e.0, fields_view e.1)

-- the types that a map has
abbrev pub declared_view : TextMap (TextMap code.TypeUse) → Declared
declared_view m = map type_view m.entries

-- a reference to a type that isn't declared, in a container too
abbrev pub is_unknown : Declared → TypeUse → Bool
is_unknown ts (references type) = not (is_some (at_name type ts))
is_unknown ts (lists held) = is_unknown ts held
is_unknown ts (maps held) = is_unknown ts held
is_unknown ts (optionals held) = is_unknown ts held
is_unknown ts _ = false

-- one of the fields refers to a type that isn't declared
abbrev pub unknown_type_in : Declared → DeclaredFields → Bool
unknown_type_in ts = list_any (λ f. is_unknown ts f.1)

-- a field of one of the types refers to a type that isn't declared
abbrev pub has_unknown_type : Declared → Bool
has_unknown_type ts = list_any (λ t. list_any (λ f. is_unknown ts f.1) t.1) ts

-- a type of more than 256 fields
abbrev pub has_large_type : Declared → Bool
has_large_type = list_any (λ t. nat_lt most_fields (length t.1))

-- one of the fields holds more than four containers one in another
abbrev pub deep_in : DeclaredFields → Bool
deep_in = list_any (λ f. nat_lt most_nested (nested f.1))

-- a field of one of the types holds more than four containers one in another
abbrev pub has_deep : Declared → Bool
has_deep = list_any (λ t. list_any (λ f. nat_lt 4 (nested f.1)) t.1)

-- no name stands twice
abbrev pub AreApart : {X : Type 0} → List (List ℕ × X) → Type 0
AreApart es = AllPairs (λ e f. e.0 ≢ f.0) es

-- the fields of each type have names of their own
abbrev pub FieldsApart : Declared → Type 0
FieldsApart ts = All (λ t. AreApart t.1) ts

-- more than 256 types, a type of more than 256 fields, or more than four containers one in another
abbrev pub too_many : Declared → Bool
too_many ts = nat_lt 256 (length ts) || list_any (λ t. nat_lt 256 (length t.1)) ts || has_deep ts

-- the first fault of types that are declared
abbrev pub types_fault : Declared → Option TypesFault
types_fault ts = first ((has_unknown_type ts, UnknownType) ∷ (too_many ts, TooLarge) ∷ [])

-- the number of the type of that name
abbrev pub number_of_type : Declared → List ℕ → Option ℕ
number_of_type ts name = position (λ t. bytes_eq name t.0) ts

-- the name of the type of a number; empty where there is none
abbrev pub name_at : Declared → ℕ → List ℕ
name_at ts n = unwrap_or (option_map (λ t. t.0) (slice_get ts n)) []

-- the fields of the type of a number; none where there is none
abbrev pub fields_at : Declared → ℕ → DeclaredFields
fields_at ts n = unwrap_or (option_map (λ t. t.1) (slice_get ts n)) []
