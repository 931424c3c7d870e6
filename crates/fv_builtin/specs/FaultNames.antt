-- The names of faults.
use Rattle.std.specs.Prelude.{ℕ, List, codes}
use Rattle.fv_builtin.specs.declared.fault.BuiltinFault.{BuiltinFault}
use Rattle.fv_builtin.specs.declared.fault.BuiltinFault.TheVariants.{Attribute, UnexpectedType, BadPattern, Memory}

-- the name of a fault of a built-in constraint
abbrev pub builtin_fault_name : BuiltinFault → List ℕ
builtin_fault_name Attribute = codes "Attribute"
builtin_fault_name UnexpectedType = codes "UnexpectedType"
builtin_fault_name BadPattern = codes "BadPattern"
builtin_fault_name Memory = codes "Memory"
