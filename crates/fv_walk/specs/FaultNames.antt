-- The names of faults.
use Rattle.std.specs.Prelude.{ℕ, List, codes}
use Rattle.fv_walk.specs.declared.fault.WalkFault.{WalkFault}
use Rattle.fv_walk.specs.declared.fault.WalkFault.TheVariants.{UnknownGroup, TooManyVisits, Memory}

-- the name of a fault of walks
abbrev pub walk_fault_name : WalkFault → List ℕ
walk_fault_name UnknownGroup = codes "UnknownGroup"
walk_fault_name TooManyVisits = codes "TooManyVisits"
walk_fault_name Memory = codes "Memory"
