-- The names of the faults of opening and of exporting.
use Rattle.std.specs.Prelude.{ℕ, List, codes}
use Rattle.fv_engine.specs.declared.engine.OpenFault.{OpenFault}
use Rattle.fv_engine.specs.declared.engine.OpenFault.TheVariants.{Declarations, Store, Memory}
use Rattle.fv_engine.specs.declared.exporting.ExportFault.{ExportFault}
use Rattle.fv_engine.specs.declared.exporting.ExportFault.TheVariants as export

-- the name of a fault of opening an engine
abbrev pub open_fault_name : OpenFault → List ℕ
open_fault_name (Declarations fault) = codes "Declarations"
open_fault_name (Store fault) = codes "Store"
open_fault_name Memory = codes "Memory"

-- the name of a fault of exporting
abbrev pub export_fault_name : ExportFault → List ℕ
export_fault_name export.Store = codes "Store"
export_fault_name export.Write = codes "Write"
export_fault_name export.Memory = codes "Memory"
