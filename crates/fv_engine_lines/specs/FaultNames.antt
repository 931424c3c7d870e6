-- The names of the faults of serving.
use Rattle.std.specs.Prelude.{ℕ, List, codes}
use Rattle.fv_engine_lines.specs.declared.serving.ServeFault.{ServeFault}
use Rattle.fv_engine_lines.specs.declared.serving.ServeFault.TheVariants.{Read, Write, Memory}

-- the name of a fault of serving
abbrev pub serve_fault_name : ServeFault → List ℕ
serve_fault_name Read = codes "Read"
serve_fault_name Write = codes "Write"
serve_fault_name Memory = codes "Memory"
