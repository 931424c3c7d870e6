-- What it is for a place in a bundle's JSON to have a fault.
use Rattle.std.specs.Prelude.{◌≡◌, ◌<◌, ◌≤◌, ◌⊎◌, ℕ, List, length, find, Bool, true, false, not, Option, Some, is_some}
use Rattle.std.specs.List.{list_any}
use Rattle.std.specs.Option.{option_map_or}
use Rattle.serde_json.specs.Data as json
use Rattle.fv_datum.specs.Lookup.{at_name}
use Rattle.fv_datum.specs.Name.{names}
use Rattle.fv_bundle.specs.Limits.{most_objects}
use Rattle.fv_model.specs.declared.fault.BundleFault.{BundleFault}
use Rattle.fv_model.specs.declared.fault.BundleFault.TheVariants.{BadName, RootMissing, UnknownType, UnknownField, WrongKind, DanglingRef, RefType, TooLarge, RootType}
use Rattle.fv_bundle.specs.Flaws.{Flaw, is_other}
use Rattle.fv_bundle.specs.Types.{DeclaredFields, Declared}
use Rattle.fv_model_fault.specs.Given.{objects_in, root_in, type_in, fields_in, types_in}
use Rattle.fv_model_fault.specs.Places.{Place, of_bundle, of_object}
use Rattle.fv_model_fault.specs.Sought.{flaw_of, HasFlaw}

-- ---- of an object as a whole

-- its name is no name
abbrev pub is_badly_named : List ℕ × json.Data → Bool
is_badly_named o = not (names o.0)

-- its type isn't declared
abbrev pub is_untyped : Declared → List ℕ × json.Data → Bool
is_untyped ts o = not (is_some (at_name (type_in o.1) ts))

-- the place is the first object that passes a test
abbrev pub IsFirstObject : (List ℕ × json.Data → Bool) → json.Data → Place → Type 0
IsFirstObject test j p = (o : List ℕ × json.Data) × (find test (objects_in j) ≡ Some o) × (p ≡ of_object o)

-- ---- of one of an object's fields

-- a datum that is given for a field of that name has the flaw
abbrev pub is_flawed : Flaw → DeclaredFields → List ℕ × json.Data → Bool
is_flawed flaw fields g = flaw (at_name g.0 fields) g.1

-- one of the data that are given for an object's fields has the flaw; none where its type isn't declared
abbrev pub has_flawed : Flaw → Declared → List ℕ × json.Data → Bool
has_flawed flaw ts o = option_map_or (λ fields. list_any (is_flawed flaw fields) (fields_in o.1)) (at_name (type_in o.1) ts) false

-- the place is in the first datum of an object that has the flaw: the first and innermost value in it
pub record IsInObject (flaw : Flaw) (ts : Declared) (o : List ℕ × json.Data) (p : Place) : Type 0 where
  pub fields : DeclaredFields
  pub given : List ℕ × json.Data
  pub declared : at_name (type_in o.1) ts ≡ Some fields
  pub first_field : find (is_flawed flaw fields) (fields_in o.1) ≡ Some given
  pub in_object : p.object ≡ Some o.0
  pub in_field : p.field ≡ Some given.0
  pub flawed : HasFlaw flaw (at_name given.0 fields) given.1 p

-- the same of the first of these objects of which a datum has the flaw
abbrev pub IsInFirst : Flaw → Declared → List (List ℕ × json.Data) → Place → Type 0
IsInFirst flaw ts os p = (o : List ℕ × json.Data) × (find (has_flawed flaw ts) os ≡ Some o) × IsInObject flaw ts o p

-- the same of the objects of a bundle
abbrev pub IsFirstFlaw : BundleFault → Declared → json.Data → Place → Type 0
IsFirstFlaw fault ts j = IsInFirst (flaw_of fault (types_in j)) ts (objects_in j)

-- ---- of the bundle

-- the root names no object
abbrev pub lacks_root : json.Data → Bool
lacks_root j = not (is_some (at_name (root_in j) (types_in j)))

-- the root is of another type than asked
abbrev pub has_other_root : Option (List ℕ) → json.Data → Bool
has_other_root asked j = option_map_or (λ type. is_other type (at_name (root_in j) (types_in j))) asked false

-- a place in the JSON of a bundle has the fault, where the root may be asked to be of a type. No place has another fault
abbrev pub HasFault : Declared → Option (List ℕ) → json.Data → BundleFault → Place → Type 0
HasFault ts asked j BadName p = IsFirstObject is_badly_named j p  -- B1: the first object whose name is no name
HasFault ts asked j RootMissing p = (lacks_root j ≡ true) × (p ≡ of_bundle j)  -- B2
HasFault ts asked j UnknownType p = IsFirstObject (is_untyped ts) j p  -- B3: the first object whose type isn't declared
HasFault ts asked j UnknownField p = IsFirstFlaw UnknownField ts j p  -- B4 to B7: the first datum with the flaw
HasFault ts asked j WrongKind p = IsFirstFlaw WrongKind ts j p
HasFault ts asked j DanglingRef p = IsFirstFlaw DanglingRef ts j p
HasFault ts asked j RefType p = IsFirstFlaw RefType ts j p
HasFault ts asked j TooLarge p =  -- B8: the bundle where it has too many objects, else the first datum that is too large
    ((most_objects < length (objects_in j)) × (p ≡ of_bundle j)) ⊎ ((length (objects_in j) ≤ most_objects) × IsFirstFlaw TooLarge ts j p)
HasFault ts asked j RootType p = (has_other_root asked j ≡ true) × (p ≡ of_bundle j)  -- B9
HasFault ts asked j _ p = ⊥
