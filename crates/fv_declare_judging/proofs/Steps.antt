-- Steps on the way to a schema.
use Rattle.std.proofs.Common.{◌≡◌, Result, Ok}
use Rattle.fv_declare_judging.specs.declared.fault.DeclFault.{DeclFault}

abbrev pub good : {X : Type 0} → X → Result X DeclFault
good x = Ok x

pub ok_same : {X : Type 0} (a b : X) → good a ≡ good b → a ≡ b
ok_same a b e = cc
