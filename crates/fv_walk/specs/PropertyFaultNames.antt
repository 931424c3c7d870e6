-- The names of faults.
use Rattle.std.specs.Prelude.{ℕ, List, codes}
use Rattle.fv_walk.specs.declared.property_fault.PropertyFault.{PropertyFault}
use Rattle.fv_walk.specs.declared.property_fault.PropertyFault.TheVariants.{NoSuchField, TooManyVisits, Memory}

-- the name of a fault of a field that is judged
abbrev pub property_fault_name : PropertyFault → List ℕ
property_fault_name NoSuchField = codes "NoSuchField"
property_fault_name TooManyVisits = codes "TooManyVisits"
property_fault_name Memory = codes "Memory"
