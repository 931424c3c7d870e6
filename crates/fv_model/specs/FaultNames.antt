-- The names and codes of faults.
use Rattle.std.specs.Prelude.{ℕ, List, [], codes}
use Rattle.fv_model.specs.declared.fault.BundleFault.{BundleFault}
use Rattle.fv_model.specs.declared.fault.BundleFault.TheVariants.{Shape, BadName, RootMissing, UnknownType, UnknownField, WrongKind, DanglingRef, RefType, TooLarge, RootType, NoObject, Memory}

-- the name of a fault of a bundle
abbrev pub bundle_fault_name : BundleFault → List ℕ
bundle_fault_name Shape = codes "Shape"
bundle_fault_name BadName = codes "BadName"
bundle_fault_name RootMissing = codes "RootMissing"
bundle_fault_name UnknownType = codes "UnknownType"
bundle_fault_name UnknownField = codes "UnknownField"
bundle_fault_name WrongKind = codes "WrongKind"
bundle_fault_name DanglingRef = codes "DanglingRef"
bundle_fault_name RefType = codes "RefType"
bundle_fault_name TooLarge = codes "TooLarge"
bundle_fault_name RootType = codes "RootType"
bundle_fault_name NoObject = codes "NoObject"
bundle_fault_name Memory = codes "Memory"

-- a fault's code in replies, none for want of memory
abbrev pub bundle_fault_code : BundleFault → List ℕ
bundle_fault_code Shape = codes "B0"
bundle_fault_code BadName = codes "B1"
bundle_fault_code RootMissing = codes "B2"
bundle_fault_code UnknownType = codes "B3"
bundle_fault_code UnknownField = codes "B4"
bundle_fault_code WrongKind = codes "B5"
bundle_fault_code DanglingRef = codes "B6"
bundle_fault_code RefType = codes "B7"
bundle_fault_code TooLarge = codes "B8"
bundle_fault_code RootType = codes "B9"
bundle_fault_code NoObject = codes "B10"
bundle_fault_code Memory = []
