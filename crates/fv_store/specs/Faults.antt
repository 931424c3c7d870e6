-- Which fault a refusal is: want of memory, or another.
use Rattle.std.specs.Prelude.{◌||◌, ℤ, pos, [], ◌∷◌, not, Option}
use Rattle.std.specs.Ordering.{int_eq}
use Rattle.sqlite.specs.declared.error.Error.{Error}
use Rattle.sqlite.specs.declared.error.Error.TheVariants.{SqliteFailure}
use Rattle.sqlite.specs.declared.error.ErrorCode.TheVariants.{OutOfMemory}
use Rattle.fv_datum.specs.declared.parsing.JsonFault.{JsonFault}
use Rattle.fv_datum.specs.declared.parsing.JsonFault.TheVariants as json
use Rattle.fv_datum.specs.Outcomes.{first}
use Rattle.fv_model.specs.declared.fault.BundleFault.{BundleFault}
use Rattle.fv_model.specs.declared.fault.BundleFault.TheVariants as bundle
use Rattle.fv_store.specs.declared.fault.OpenStoreFault.{OpenStoreFault}
use Rattle.fv_store.specs.declared.fault.OpenStoreFault.TheVariants as refusal
use Rattle.fv_store.specs.declared.fault.StoreFault.{StoreFault}
use Rattle.fv_store.specs.declared.fault.StoreFault.TheVariants.{Store, Memory}
use Rattle.fv_store_upgrade.specs.declared.fault.UpgradeFault.{UpgradeFault}
use Rattle.fv_store_upgrade.specs.declared.fault.UpgradeFault.TheVariants as upgrade
use Rattle.fv_store.specs.Stands.{first_version, tables_version}

-- of an error of the database
abbrev pub fault_of : Error → StoreFault
fault_of (SqliteFailure OutOfMemory) = Memory
fault_of _ = Store

-- of why a text isn't read as JSON
abbrev pub json_fault : JsonFault → StoreFault
json_fault json.NotJson = Store
json_fault json.Memory = Memory

-- of JSON that spells no bundle
abbrev pub bundle_fault : BundleFault → StoreFault
bundle_fault bundle.Memory = Memory
bundle_fault _ = Store

-- of an error of the database at an open
abbrev pub open_fault_of : Error → OpenStoreFault
open_fault_of (SqliteFailure OutOfMemory) = refusal.Memory
open_fault_of _ = refusal.Store

-- of a migration
abbrev pub upgrade_fault : UpgradeFault → OpenStoreFault
upgrade_fault upgrade.Memory = refusal.Memory
upgrade_fault _ = refusal.Store

-- a fault of the row of `about`
abbrev pub IsAboutFault : OpenStoreFault → Type 0
IsAboutFault refusal.OtherVersion = Unit {0}
IsAboutFault _ = ⊥

-- of the row of `about`: its version alone is judged
abbrev pub about_fault : ℤ → Option OpenStoreFault
about_fault version = first ((not (int_eq version (pos first_version) || int_eq version (pos tables_version)), refusal.OtherVersion) ∷ [])
