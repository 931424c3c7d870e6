-- The names of faults.
use Rattle.std.specs.Prelude.{ℕ, List, codes}
use Rattle.fv_walk.specs.declared.property_fault.PropertyFault.{PropertyFault}
use Rattle.fv_walk.specs.declared.property_fault.PropertyFault.TheVariants as property
use Rattle.fv_walk.specs.declared.fault.WalkFault.{WalkFault}
use Rattle.fv_walk.specs.declared.fault.WalkFault.TheVariants as walk
use Rattle.fv_validate.specs.declared.fault.ValidateFault.{ValidateFault}
use Rattle.fv_validate.specs.declared.fault.ValidateFault.TheVariants.{UnknownGroup, NoSuchField, TooManyVisits, Memory}

-- the name of a fault of validation
abbrev pub validate_fault_name : ValidateFault → List ℕ
validate_fault_name UnknownGroup = codes "UnknownGroup"
validate_fault_name NoSuchField = codes "NoSuchField"
validate_fault_name TooManyVisits = codes "TooManyVisits"
validate_fault_name Memory = codes "Memory"

-- the fault that a fault of the walk is
abbrev pub walk_fault : WalkFault → ValidateFault
walk_fault walk.UnknownGroup = UnknownGroup
walk_fault walk.TooManyVisits = TooManyVisits
walk_fault walk.Memory = Memory

-- the fault that a fault of a field that is judged is
abbrev pub property_fault : PropertyFault → ValidateFault
property_fault property.NoSuchField = NoSuchField
property_fault property.TooManyVisits = TooManyVisits
property_fault property.Memory = Memory
