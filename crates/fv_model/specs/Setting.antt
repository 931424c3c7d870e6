-- One datum of a bundle is changed.
use Rattle.std.specs.Prelude.{ℕ, List, [], ◌∷◌, map, Bool, false, not, Option, Some, option_and_then, Result, is_some}
use Rattle.std.specs.Option.{option_map_or}
use Rattle.serde_json.specs.Data as json
use Rattle.fv_datum.specs.Data.{Data, null}
use Rattle.fv_datum.specs.Lookup.{at_name}
use Rattle.fv_datum.specs.Outcomes.{first, unless_fault}
use Rattle.fv_bundle.specs.Flaws.{Flaw, undeclared, misfits, dangles, strays, is_large}
use Rattle.fv_bundle.specs.Names.{ObjectTypes}
use Rattle.fv_bundle.specs.Types.{TypeUse, Declared}
use Rattle.fv_bundle.specs.Bundles.{Thing, Bundled}
use Rattle.fv_model.specs.Reading.{fields_of, datum_at}
use Rattle.fv_bundle.specs.Replaced.{bundle_with}
use Rattle.fv_model.specs.declared.fault.BundleFault.{BundleFault}
use Rattle.fv_model.specs.declared.fault.BundleFault.TheVariants.{UnknownField, WrongKind, DanglingRef, RefType, TooLarge, NoObject}

-- what the field of that name of an object holds: none where the object's type doesn't have it
abbrev pub field_use_of : Declared → List ℕ → Thing → Option TypeUse
field_use_of ts field t = at_name field (fields_of ts t.type_name)

-- ---- what can be wrong

-- the datum that is given for a field of an object has the flaw; false where there is no object
abbrev pub is_flawed : Flaw → Declared → List ℕ → json.Data → Option Thing → Bool
is_flawed flaw ts field j there = option_map_or (λ t. flaw (field_use_of ts field t) j) there false

-- what can be wrong, in the order in which it is answered
abbrev pub set_conditions : Declared → ObjectTypes → List ℕ → json.Data → Option Thing → List (Bool × BundleFault)
set_conditions ts types field j there =
    (is_flawed undeclared ts field j there, UnknownField)  -- B4: the object's type doesn't have the field
    ∷ (is_flawed misfits ts field j there, WrongKind)  -- B5: the datum isn't of the field's type use
    ∷ (is_flawed (dangles types) ts field j there, DanglingRef)  -- B6: a reference names no object of this bundle
    ∷ (is_flawed (strays types) ts field j there, RefType)  -- B7: it names an object of another type than declared
    ∷ (is_flawed is_large ts field j there, TooLarge)  -- B8: the datum is too large
    ∷ (not (is_some there), NoObject)  -- B10: there is no such object
    ∷ []

-- ---- what is changed where nothing is wrong

-- the datum that a value spells for a field of an object
abbrev pub datum_for : Declared → List ℕ → json.Data → Option Thing → Data
datum_for ts field j there = option_map_or (λ u. datum_at u (Some j)) (option_and_then (field_use_of ts field) there) null

-- the bundle with the datum that a value spells in a field of one of its objects, or the first fault
abbrev pub bundle_set : Declared → Bundled → List ℕ → List ℕ → json.Data → Result Bundled BundleFault
bundle_set ts b object field j = unless_fault (first (set_conditions ts (map (λ o. (o.0, o.1.type_name)) b.objects) field j (at_name object b.objects)))
    (bundle_with object field (datum_for ts field j (at_name object b.objects)) b)

-- the datum alone, or the first fault
abbrev pub datum_given : Declared → Bundled → List ℕ → List ℕ → json.Data → Result Data BundleFault
datum_given ts b object field j = unless_fault (first (set_conditions ts (map (λ o. (o.0, o.1.type_name)) b.objects) field j (at_name object b.objects)))
    (datum_for ts field j (at_name object b.objects))

-- the same of a type use, where the objects have these types
abbrev pub datum_in_use : ObjectTypes → TypeUse → json.Data → Result Data BundleFault
datum_in_use types type_use j = unless_fault
    (first ((misfits (Some type_use) j, WrongKind) ∷ (dangles types (Some type_use) j, DanglingRef) ∷ (strays types (Some type_use) j, RefType)
    ∷ (is_large (Some type_use) j, TooLarge) ∷ [])) (datum_at type_use (Some j))
