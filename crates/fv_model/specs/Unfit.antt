-- Why a bundle that is well-typed may be refused under other types.
use Rattle.std.specs.Prelude.{Bool, true, false}
use Rattle.fv_model.specs.declared.fault.BundleFault.{BundleFault}
use Rattle.fv_model.specs.declared.fault.BundleFault.TheVariants.{UnknownType, UnknownField, WrongKind, DanglingRef, RefType, RootType}

-- a fault that other types can make: it isn't one of the bundle's form, of its names, of its root's being there or of its size
abbrev pub is_of_types : BundleFault → Bool
is_of_types UnknownType = true
is_of_types UnknownField = true
is_of_types WrongKind = true
is_of_types DanglingRef = true
is_of_types RefType = true
is_of_types RootType = true
is_of_types _ = false
