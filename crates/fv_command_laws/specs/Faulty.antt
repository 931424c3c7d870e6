-- What a refusal for a bundle's fault says of a command, and of a part of a batch.
use Rattle.std.specs.Prelude.{◌≡◌, ◌≢◌, ℕ, List, Some, Err}
use Rattle.fv_datum.specs.Lookup.{at_name}
use Rattle.fv_declare_schema.specs.Declarations.{Declarations}
use Rattle.fv_engine_command.specs.Commands.{Part, put, set, remove, Request, alone, check_value}
use Rattle.fv_model.specs.Reading.{bundle_read, value_read}
use Rattle.fv_model.specs.Setting.{bundle_set}
use Rattle.fv_model.specs.declared.fault.BundleFault.{BundleFault}
use Rattle.fv_model.specs.declared.fault.BundleFault.TheVariants.{Shape}
use Rattle.fv_bundle.specs.Types.{TypeUse}
use Rattle.fv_store.specs.Records.{Kept, Records}
use Rattle.fv_validate.specs.Values.{field_use}

-- a part by itself has the fault: the JSON of a put's bundle, its root asked to be of the form's type, though it is of the form of a bundle;
-- or the JSON of a set's datum, in the bundle of the record at its id
abbrev pub IsFaultyPart : Declarations → Records → Part → BundleFault → Type 0
IsFaultyPart ds m (put id form j) fault =
    (root : List ℕ) × (at_name form ds.forms ≡ Some root) × (bundle_read ds.types (Some root) j ≡ Err fault) × (fault ≢ Shape)
IsFaultyPart ds m (set id object field j) fault = (k : Kept) × (m id ≡ Some k) × (bundle_set ds.types k.bundle object field j ≡ Err fault)
IsFaultyPart ds m (remove id) fault = ⊥

-- a request has it: a part by itself, or the JSON of a checkvalue's value, whose field is there
abbrev pub IsFaulty : Declarations → Records → Request → BundleFault → Type 0
IsFaulty ds m (alone p) fault = IsFaultyPart ds m p fault
IsFaulty ds m (check_value type field j names) fault = (held : TypeUse) × (field_use ds.types type field ≡ Some held) × (value_read held j ≡ Err fault)
IsFaulty ds m _ fault = ⊥
