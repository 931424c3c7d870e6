-- Which fault a refusal is, and the names of faults.
use Rattle.std.specs.Prelude.{ℕ, List, codes}
use Rattle.sqlite.specs.declared.error.Error.{Error}
use Rattle.sqlite.specs.declared.error.Error.TheVariants.{SqliteFailure}
use Rattle.sqlite.specs.declared.error.ErrorCode.TheVariants.{OutOfMemory}
use Rattle.fv_datum.specs.declared.parsing.JsonFault.{JsonFault}
use Rattle.fv_datum.specs.declared.parsing.JsonFault.TheVariants as json
use Rattle.fv_store_upgrade.specs.declared.fault.UpgradeFault.{UpgradeFault}
use Rattle.fv_store_upgrade.specs.declared.fault.UpgradeFault.TheVariants.{Damaged, Database, Memory}

-- of an error of the database
abbrev pub fault_of : Error → UpgradeFault
fault_of (SqliteFailure OutOfMemory) = Memory
fault_of _ = Database

-- of why a text isn't read as JSON
abbrev pub json_fault : JsonFault → UpgradeFault
json_fault json.NotJson = Damaged
json_fault json.Memory = Memory

-- the name of a fault
abbrev pub upgrade_fault_name : UpgradeFault → List ℕ
upgrade_fault_name Damaged = codes "Damaged"
upgrade_fault_name Database = codes "Database"
upgrade_fault_name Memory = codes "Memory"
