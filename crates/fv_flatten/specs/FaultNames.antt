-- The names of faults.
use Rattle.std.specs.Prelude.{ℕ, List, codes}
use Rattle.fv_flatten.specs.declared.fault.FlattenFault.{FlattenFault}
use Rattle.fv_flatten.specs.declared.fault.FlattenFault.TheVariants.{CyclicComposition, EmptyConstraint, TooLarge, UnknownRule, Attribute, UnexpectedType, BadPattern, Memory}

-- the name of a fault
abbrev pub flatten_fault_name : FlattenFault → List ℕ
flatten_fault_name CyclicComposition = codes "CyclicComposition"
flatten_fault_name EmptyConstraint = codes "EmptyConstraint"
flatten_fault_name TooLarge = codes "TooLarge"
flatten_fault_name UnknownRule = codes "UnknownRule"
flatten_fault_name Attribute = codes "Attribute"
flatten_fault_name UnexpectedType = codes "UnexpectedType"
flatten_fault_name BadPattern = codes "BadPattern"
flatten_fault_name Memory = codes "Memory"
