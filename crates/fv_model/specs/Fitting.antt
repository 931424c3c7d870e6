-- Whether given data fit, for private clauses.
use Rattle.std.specs.Prelude.{ℕ, List, Bool, false, Option, Some, None, Result, Ok, Err, if◌then◌else◌}
use Rattle.std.specs.List.{list_any}
use Rattle.serde_json.specs.Data as json
use Rattle.serde_json.specs.Find.{get_member}
use Rattle.fv_model.specs.Draft.{ObjectDraft}
use Rattle.fv_bundle.specs.Flaws.{misfits}
use Rattle.fv_bundle.specs.Types.{TypeUse, Declared}
use Rattle.fv_model.specs.Reading.{fields_of}
use Rattle.fv_model.specs.declared.fault.BundleFault.{BundleFault}
use Rattle.fv_model.specs.declared.fault.BundleFault.TheVariants.{WrongKind}

-- a given datum isn't of the type use
abbrev pub misfits_given : TypeUse → Option json.Data → Bool
misfits_given type_use None = false
misfits_given type_use (Some j) = misfits (Some type_use) j

-- the same, of a field
abbrev pub field_misfits : json.Members → List ℕ × TypeUse → Bool
field_misfits given f = misfits_given f.1 (get_member f.0 given)

-- the same, of one of an object's fields
abbrev pub part_misfits : Declared → ObjectDraft → Bool
part_misfits ts p = list_any (field_misfits p.given) (fields_of ts p.type_name)

-- the value, unless a datum is of another kind
abbrev pub unless_wrong : {X : Type 0} → Bool → X → Result X BundleFault
unless_wrong wrong x = if wrong then Err WrongKind else Ok x
