-- The names of faults.
use Rattle.std.specs.Prelude.{ℕ, List, codes}
use Rattle.fv_datum.specs.declared.fault.DatumFault.{DatumFault}
use Rattle.fv_datum.specs.declared.fault.DatumFault.TheVariants.{WrongKind, Memory}
use Rattle.fv_datum.specs.declared.parsing.JsonFault.{JsonFault}
use Rattle.fv_datum.specs.declared.parsing.JsonFault.TheVariants as json

-- the name of a fault of a datum
abbrev pub datum_fault_name : DatumFault → List ℕ
datum_fault_name WrongKind = codes "WrongKind"
datum_fault_name Memory = codes "Memory"

-- the name of a fault of reading bytes as JSON
abbrev pub json_fault_name : JsonFault → List ℕ
json_fault_name json.NotJson = codes "NotJson"
json_fault_name json.Memory = codes "Memory"
