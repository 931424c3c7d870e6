-- Whether the JSON of a bundle has a fault, as a test; for private clauses.
use Rattle.std.specs.Prelude.{ℕ, List, length, ◌||◌, nat_lt, Bool, false, Option}
use Rattle.std.specs.List.{list_any}
use Rattle.serde_json.specs.Data as json
use Rattle.fv_bundle.specs.Limits.{most_objects}
use Rattle.fv_model.specs.declared.fault.BundleFault.{BundleFault}
use Rattle.fv_model.specs.declared.fault.BundleFault.TheVariants.{BadName, RootMissing, UnknownType, UnknownField, WrongKind, DanglingRef, RefType, TooLarge, RootType}
use Rattle.fv_bundle.specs.Types.{Declared}
use Rattle.fv_model_fault.specs.Faults.{is_badly_named, is_untyped, has_flawed, lacks_root, has_other_root}
use Rattle.fv_model_fault.specs.Given.{objects_in, types_in}
use Rattle.fv_model_fault.specs.Sought.{flaw_of}

-- a datum of one of the objects has the flaw that a fault is
abbrev pub any_flawed : Declared → json.Data → BundleFault → Bool
any_flawed ts j fault = list_any (has_flawed (flaw_of fault (types_in j)) ts) (objects_in j)

-- the bundle has the fault
abbrev pub has_fault : Declared → Option (List ℕ) → json.Data → BundleFault → Bool
has_fault ts asked j BadName = list_any is_badly_named (objects_in j)
has_fault ts asked j RootMissing = lacks_root j
has_fault ts asked j UnknownType = list_any (is_untyped ts) (objects_in j)
has_fault ts asked j UnknownField = any_flawed ts j UnknownField
has_fault ts asked j WrongKind = any_flawed ts j WrongKind
has_fault ts asked j DanglingRef = any_flawed ts j DanglingRef
has_fault ts asked j RefType = any_flawed ts j RefType
has_fault ts asked j TooLarge = nat_lt most_objects (length (objects_in j)) || any_flawed ts j TooLarge
has_fault ts asked j RootType = has_other_root asked j
has_fault ts asked j _ = false
