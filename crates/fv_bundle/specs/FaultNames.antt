-- The names of faults.
use Rattle.std.specs.Prelude.{ℕ, List, codes}
use Rattle.fv_bundle.specs.declared.fault.TypesFault.{TypesFault}
use Rattle.fv_bundle.specs.declared.fault.TypesFault.TheVariants.{UnknownType, TooLarge, Memory}

-- the name of a fault of declared types
abbrev pub types_fault_name : TypesFault → List ℕ
types_fault_name UnknownType = codes "UnknownType"
types_fault_name TooLarge = codes "TooLarge"
types_fault_name Memory = codes "Memory"
