-- The names of faults.
use Rattle.std.specs.Prelude.{ℕ, List, codes}
use Rattle.fv_registry.specs.declared.fault.RegistryFault.{RegistryFault}
use Rattle.fv_registry.specs.declared.fault.RegistryFault.TheVariants.{DuplicateRule, TooMany, Memory}

-- the name of a registry's fault
abbrev pub registry_fault_name : RegistryFault → List ℕ
registry_fault_name DuplicateRule = codes "DuplicateRule"
registry_fault_name TooMany = codes "TooMany"
registry_fault_name Memory = codes "Memory"
