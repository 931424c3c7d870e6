-- The names of faults.
use Rattle.std.specs.Prelude.{ℕ, List, codes}
use Rattle.fv_explain_faults.specs.declared.told.Untold.{Untold}
use Rattle.fv_explain_faults.specs.declared.told.Untold.TheVariants.{Absent, Memory}

-- the name of why a fault isn't told
abbrev pub untold_name : Untold → List ℕ
untold_name Absent = codes "Absent"
untold_name Memory = codes "Memory"
