-- The names of faults.
use Rattle.std.specs.Prelude.{ℕ, List, codes}
use Rattle.fv_declare_schema.specs.declared.fault.GroupFault.{GroupFault}
use Rattle.fv_declare_schema.specs.declared.fault.GroupFault.TheVariants.{UnknownGroup, CyclicInheritance, CyclicSequence, SequenceMisused, TooLarge, Memory}

-- the name of a fault of declared groups
abbrev pub group_fault_name : GroupFault → List ℕ
group_fault_name UnknownGroup = codes "UnknownGroup"
group_fault_name CyclicInheritance = codes "CyclicInheritance"
group_fault_name CyclicSequence = codes "CyclicSequence"
group_fault_name SequenceMisused = codes "SequenceMisused"
group_fault_name TooLarge = codes "TooLarge"
group_fault_name Memory = codes "Memory"
