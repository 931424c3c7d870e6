-- The names of faults.
use Rattle.std.specs.Prelude.{ℕ, List, codes}
use Rattle.fv_store.specs.declared.fault.OpenStoreFault.{OpenStoreFault}
use Rattle.fv_store.specs.declared.fault.OpenStoreFault.TheVariants as refusal
use Rattle.fv_store.specs.declared.fault.StoreFault.{StoreFault}
use Rattle.fv_store.specs.declared.fault.StoreFault.TheVariants.{Store, Memory}

-- the name of a fault of the store
abbrev pub store_fault_name : StoreFault → List ℕ
store_fault_name Store = codes "Store"
store_fault_name Memory = codes "Memory"

-- the name of a fault of opening a store
abbrev pub open_store_fault_name : OpenStoreFault → List ℕ
open_store_fault_name refusal.OtherVersion = codes "OtherVersion"
open_store_fault_name refusal.Store = codes "Store"
open_store_fault_name refusal.Memory = codes "Memory"
