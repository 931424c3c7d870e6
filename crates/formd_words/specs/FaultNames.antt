-- The names of faults.
use Rattle.std.specs.Prelude.{ℕ, List, codes}
use Rattle.formd_words.specs.declared.failure.Failure.{Failure}
use Rattle.formd_words.specs.declared.failure.Failure.TheVariants as failure

-- the name of what ended the program early
abbrev pub failure_name : Failure → List ℕ
failure_name failure.NotUtf8 = codes "NotUtf8"
failure_name failure.Unreadable = codes "Unreadable"
failure_name failure.CannotOpen = codes "CannotOpen"
failure_name (failure.Declarations fault) = codes "Declarations"
failure_name failure.UnknownForm = codes "UnknownForm"
failure_name (failure.Store fault) = codes "Store"
failure_name failure.Read = codes "Read"
failure_name failure.Write = codes "Write"
failure_name failure.Memory = codes "Memory"
