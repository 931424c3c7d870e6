-- The names of faults.
use Rattle.std.specs.Prelude.{◌≡◌, ◌≢◌, ℕ, List, codes}
use Rattle.std.specs.declared.io.ErrorKind.{ErrorKind}
use Rattle.std.specs.declared.io.ErrorKind.TheVariants.{OutOfMemory}
use Rattle.formd_task.specs.declared.files.FileFault.{FileFault}
use Rattle.formd_task.specs.declared.files.FileFault.TheVariants as file
use Rattle.formd_task.specs.declared.made.NotOpened.{NotOpened}
use Rattle.formd_task.specs.declared.made.NotOpened.TheVariants as opening

-- the name of a fault of a file
abbrev pub file_fault_name : FileFault → List ℕ
file_fault_name file.Unreadable = codes "Unreadable"
file_fault_name file.Memory = codes "Memory"

-- the name of why a database isn't opened
abbrev pub not_opened_name : NotOpened → List ℕ
not_opened_name opening.Memory = codes "Memory"
not_opened_name opening.Refused = codes "Refused"

-- the fault that an error of a kind becomes
abbrev pub FaultOf : ErrorKind → FileFault → Type 0
FaultOf kind fault = (kind ≡ OutOfMemory → fault ≡ file.Memory) × (kind ≢ OutOfMemory → fault ≡ file.Unreadable)
