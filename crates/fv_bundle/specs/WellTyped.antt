-- The bundles that are well-typed.
use Rattle.std.specs.Prelude.{◌≡◌, ◌≤◌, ℕ, List, length, true, Some, is_some}
use Rattle.std.specs.List.{AllByRecursion, AllZip}
use Rattle.std.specs.Map.{keys_of}
use Rattle.fv_datum.specs.Data.{Data}
use Rattle.fv_datum.specs.Lookup.{at_name}
use Rattle.fv_datum.specs.Name.{names}
use Rattle.fv_bundle.specs.Fits.{Referring, Fits, OrNull, IsOfUse}
use Rattle.fv_bundle.specs.Types.{TypeUse, DeclaredFields, Declared}
use Rattle.fv_bundle.specs.Limits.{most_objects}
use Rattle.fv_bundle.specs.Bundles.{IsAscending, Thing, Things, Bundled}

-- the name is that of an object of the type
abbrev pub NamesObject : Things → List ℕ → List ℕ → Type 0
NamesObject os type name = (t : Thing) × (at_name name os ≡ Some t) × (t.type_name ≡ type)

-- any name of any type
abbrev pub AnyName : List ℕ → List ℕ → Type 0
AnyName type name = Unit {0}

-- null, or a datum of the field's type use, within the limits; each reference in it names an object of its type
abbrev pub FitsUse : Things → TypeUse → Data → Type 0
FitsUse os = Fits (NamesObject os)

-- each field of a type, in order, with null or a datum of its type use within the limits; each reference in it is one of the names
abbrev pub FieldsAre : Referring → DeclaredFields → List (List ℕ × Data) → Type 0
FieldsAre Named = AllZip (λ d f. (f.0 ≡ d.0) × Fits Named d.1 f.1)

-- an object of a declared type, in a bundle of these objects: each of the type's fields, in order, with null or a datum of its type use within
-- the limits
pub record FitsType (ts : Declared) (os : Things) (t : Thing) : Type 0 where
  pub fields : DeclaredFields
  pub declared : at_name t.type_name ts ≡ Some fields
  pub fit : AllZip (λ d f. (f.0 ≡ d.0) × OrNull (IsOfUse (NamesObject os) d.1) f.1) fields t.fields

-- each field of a type with null or a datum of its type use; a reference may be any name
abbrev pub AreOfFields : DeclaredFields → List (List ℕ × Data) → Type 0
AreOfFields = FieldsAre AnyName

-- an object of a declared type, whatever its references name
pub record IsOfType (ts : Declared) (t : Thing) : Type 0 where
  pub fields : DeclaredFields
  pub declared : at_name t.type_name ts ≡ Some fields
  pub fit : AreOfFields fields t.fields

-- at most 256 objects, each by a name, once and in order, which the root is one of; each object is of a declared type,
-- and each datum of it fits its field
pub record IsWellTyped (ts : Declared) (b : Bundled) : Type 0 where
  pub few : length b.objects ≤ most_objects
  pub ascending : IsAscending (keys_of b.objects)
  pub named : AllByRecursion (λ o. names o.0 ≡ true) b.objects
  pub rooted : is_some (at_name b.root b.objects) ≡ true
  pub typed : AllByRecursion (λ o. FitsType ts b.objects o.1) b.objects

-- the root is an object of that type
abbrev pub HasRootType : List ℕ → Bundled → Type 0
HasRootType type b = NamesObject b.objects type b.root
