-- The bundle that a JSON value spells, or its first fault.
use Rattle.std.specs.Prelude.{ℕ, ◌||◌, List, [], ◌∷◌, length, map, Bool, false, not, nat_lt, Option, Some, None, Result, Err, option_and_then, unwrap_or, is_some, if◌then◌else◌}
use Rattle.std.specs.List.{list_any}
use Rattle.std.specs.Map.{keys_of}
use Rattle.std.specs.Option.{option_map_or}
use Rattle.serde_json.specs.Data as json
use Rattle.serde_json.specs.Find.{get_member}
use Rattle.fv_datum.specs.Outcomes.{first, unless_fault}
use Rattle.fv_datum.specs.Data.{Data, null}
use Rattle.fv_datum.specs.Lookup.{at_name}
use Rattle.fv_datum.specs.Name.{names}
use Rattle.fv_bundle.specs.Flaws.{Flaw, undeclared, misfits, dangles, strays, is_large, is_other}
use Rattle.fv_bundle.specs.Names.{ObjectTypes}
use Rattle.fv_bundle.specs.Spelled.{datum_of}
use Rattle.fv_bundle.specs.Types.{TypeUse, DeclaredFields, Declared}
use Rattle.fv_bundle.specs.Limits.{most_objects}
use Rattle.fv_bundle.specs.Typing.{ascend_behind}
use Rattle.fv_bundle.specs.Bundles.{Thing, Bundled}
use Rattle.fv_datum.specs.Members.{pairs}
use Rattle.fv_model.specs.Draft.{ObjectDraft, BundleDraft, bundle_draft_of}
use Rattle.fv_model.specs.declared.fault.BundleFault.{BundleFault}
use Rattle.fv_model.specs.declared.fault.BundleFault.TheVariants.{Shape, BadName, RootMissing, UnknownType, UnknownField, WrongKind, DanglingRef, RefType, TooLarge, RootType}

-- the fields of a type: none where it isn't declared
abbrev pub fields_of : Declared → List ℕ → DeclaredFields
fields_of ts type = unwrap_or (at_name type ts) []

-- the names of the objects that are given, each with the name of its type
abbrev pub object_types : List ObjectDraft → ObjectTypes
object_types = map (λ p. (p.name, p.type_name))

-- ---- what can be wrong

-- one of the data that are given for an object's fields has the flaw; false where its type isn't declared
unfoldable pub has_flaw : Flaw → Declared → ObjectDraft → Bool
has_flaw flaw ts p = option_map_or (λ fields. list_any (λ g. flaw (at_name g.0 fields) g.1) (pairs p.given)) (at_name p.type_name ts) false

-- what can be wrong, in the order in which it is answered
abbrev pub bundle_conditions : Declared → Option (List ℕ) → BundleDraft → List (Bool × BundleFault)
bundle_conditions ts asked d =
    (list_any (λ p. not (names p.name)) d.objects, BadName)  -- B1: an object's name is no name
    ∷ (not (is_some (at_name d.root (object_types d.objects))), RootMissing)  -- B2: the root names no object
    ∷ (list_any (λ p. not (is_some (at_name p.type_name ts))) d.objects, UnknownType)  -- B3: an object's type isn't declared
    ∷ (list_any (has_flaw undeclared ts) d.objects, UnknownField)  -- B4: a field is given that its object's type doesn't have
    ∷ (list_any (has_flaw misfits ts) d.objects, WrongKind)  -- B5: a datum isn't of its field's type use
    ∷ (list_any (has_flaw (dangles (object_types d.objects)) ts) d.objects, DanglingRef)  -- B6: a reference names no object
    ∷ (list_any (has_flaw (strays (object_types d.objects)) ts) d.objects, RefType)  -- B7: it names an object of another type than declared
    ∷ (nat_lt most_objects (length d.objects) || list_any (has_flaw is_large ts) d.objects, TooLarge)  -- B8: more than 256 objects, or too large a datum
    ∷ (option_map_or (λ type. is_other type (at_name d.root (object_types d.objects))) asked false, RootType)  -- B9: the root is of another type than asked
    ∷ []

-- ---- what it spells where nothing is wrong

-- a field's datum: null where the field isn't given
abbrev pub datum_at : TypeUse → Option json.Data → Data
datum_at type_use given = unwrap_or (option_and_then (datum_of type_use) given) null

-- a field with its datum among those that are given
abbrev pub given_field : json.Members → List ℕ × TypeUse → List ℕ × Data
given_field given f = (f.0, datum_at f.1 (get_member f.0 given))

-- an object with its name: each field of its type, in the type's order, with its datum among those that are given
abbrev pub object_of : Declared → ObjectDraft → List ℕ × Thing
object_of ts p =
    (p.name, record { type_name = p.type_name; fields = map (λ f. (f.0, datum_at f.1 (get_member f.0 p.given))) (fields_of ts p.type_name) })

-- the bundle that a draft is
abbrev pub bundle_of : Declared → BundleDraft → Bundled
bundle_of ts d = record { root = d.root; objects = map (object_of ts) d.objects }

-- ---- a datum by itself

-- the datum of a type use that a JSON value spells, or its first fault. A reference may be any name
abbrev pub value_read : TypeUse → json.Data → Result Data BundleFault
value_read type_use j =
    unless_fault (first ((misfits (Some type_use) j, WrongKind) ∷ (is_large (Some type_use) j, TooLarge) ∷ [])) (datum_at type_use (Some j))

-- ---- a bundle

-- the bundle that a JSON value spells, its root of the asked type, or the first fault: B0 where it hasn't the form of a bundle
abbrev pub bundle_read : Declared → Option (List ℕ) → json.Data → Result Bundled BundleFault
bundle_read ts asked j = option_map_or (λ d. unless_fault (first (bundle_conditions ts asked d)) (bundle_of ts d)) (bundle_draft_of j) (Err Shape)

-- the bundle of objects that are given one by one, or the first fault: B0 where their names don't ascend
abbrev pub objects_read : Declared → BundleDraft → Result Bundled BundleFault
objects_read ts d =
    if ascend_behind None (keys_of (object_types d.objects)) then unless_fault (first (bundle_conditions ts None d)) (bundle_of ts d) else Err Shape
