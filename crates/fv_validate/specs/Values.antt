-- A datum in a field of a type.
use Rattle.std.specs.Prelude.{◌≡◌, ℕ, List, map, Option, Some, option_and_then, cond}
use Rattle.fv_datum.specs.Data.{Data, null}
use Rattle.fv_datum.specs.Lookup.{at_name}
use Rattle.fv_bundle.specs.Bundles.{Thing}
use Rattle.fv_model.specs.Reading.{fields_of}
use Rattle.fv_bundle.specs.WellTyped.{AnyName}
use Rattle.fv_bundle.specs.Fits.{Fits}
use Rattle.fv_bundle.specs.Types.{TypeUse, Declared}
use Rattle.std.specs.Str.{bytes_eq}

-- what the field of a name holds in the type of a name; none where the type isn't declared, or has no such field
abbrev pub field_use : Declared → List ℕ → List ℕ → Option TypeUse
field_use ts type name = option_and_then (at_name name) (at_name type ts)

-- where the type of a name has the field of a name, a datum is null or of what that holds, within the limits; a reference may be any name
abbrev pub FitsField : Declared → List ℕ → List ℕ → Data → Type 0
FitsField ts type name d = (u : TypeUse) → field_use ts type name ≡ Some u → Fits AnyName u d

-- the object of the type of a name with a datum in the field of a name, and null in the others
abbrev pub valued : Declared → List ℕ → List ℕ → Data → Thing
valued ts type name d = record { type_name = type; fields = map (λ f. (f.0, cond (bytes_eq name f.0) d null)) (fields_of ts type) }
