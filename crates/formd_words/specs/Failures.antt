-- What is told of a failure, and which failure a fault is.
use Rattle.std.specs.Prelude.{◌≡◌, ◌≢◌, ◌⊎◌, ◌++◌, ℕ, List, codes, ⊤}
use Rattle.fv_declare_judging.specs.FaultNames.{decl_fault_code, decl_fault_name}
use Rattle.fv_declare_judging.specs.declared.fault.DeclFault.{DeclFault}
use Rattle.fv_declare_judging.specs.declared.fault.DeclFault.TheVariants as decl
use Rattle.fv_engine.specs.declared.engine.OpenFault.{OpenFault}
use Rattle.fv_engine.specs.declared.engine.OpenFault.TheVariants as opening
use Rattle.fv_engine.specs.declared.exporting.ExportFault.{ExportFault}
use Rattle.fv_engine.specs.declared.exporting.ExportFault.TheVariants as export
use Rattle.fv_engine_lines.specs.declared.serving.ServeFault.{ServeFault}
use Rattle.fv_engine_lines.specs.declared.serving.ServeFault.TheVariants as serve
use Rattle.fv_json_schema.specs.declared.bundle.SchemaFault.{SchemaFault}
use Rattle.fv_json_schema.specs.declared.bundle.SchemaFault.TheVariants as schema
use Rattle.fv_store.specs.FaultNames.{open_store_fault_name}
use Rattle.fv_store.specs.declared.fault.OpenStoreFault.{OpenStoreFault}
use Rattle.fv_store.specs.declared.fault.OpenStoreFault.TheVariants as stored
use Rattle.formd_task.specs.declared.files.FileFault.{FileFault}
use Rattle.formd_task.specs.declared.files.FileFault.TheVariants as file
use Rattle.formd_task.specs.declared.made.NotOpened.{NotOpened}
use Rattle.formd_task.specs.declared.made.NotOpened.TheVariants as unopened
use Rattle.formd_words.specs.declared.failure.Failure.{Failure}
use Rattle.formd_words.specs.declared.failure.Failure.TheVariants as failure

-- the exit status: 2 for words, 3 for declarations, 4 for all else
abbrev pub failure_status : Failure → ℕ
failure_status failure.NotUtf8 = 2
failure_status (failure.Declarations fault) = 3
failure_status _ = 4

-- the text on standard error
abbrev pub failure_text : Failure → List ℕ
failure_text failure.NotUtf8 = codes "error: invalid UTF-8 was detected in one or more arguments\n\n"
    ++ codes "Usage: formd [COMMAND]\n\nFor more information, try '--help'.\n"
failure_text failure.Unreadable = codes "formd: cannot read declarations\n"
failure_text failure.CannotOpen = codes "formd: cannot open database\n"
failure_text (failure.Declarations fault) =
    codes "formd: declarations refused: " ++ (decl_fault_code fault ++ (codes " " ++ (decl_fault_name fault ++ codes "\n")))
failure_text failure.UnknownForm = codes "formd: no such form\n"
failure_text (failure.Store fault) = codes "formd: store: " ++ (open_store_fault_name fault ++ codes "\n")
failure_text failure.Read = codes "formd: read\n"
failure_text failure.Write = codes "formd: write\n"
failure_text failure.Memory = codes "formd: memory\n"

-- the failure to read a file
abbrev pub file_failure : FileFault → Failure
file_failure file.Unreadable = failure.Unreadable
file_failure file.Memory = failure.Memory

-- the failure to open a database
abbrev pub opening_failure : NotOpened → Failure
opening_failure unopened.Memory = failure.Memory
opening_failure unopened.Refused = failure.CannotOpen

-- the failure to serve
abbrev pub serve_failure : ServeFault → Failure
serve_failure serve.Read = failure.Read
serve_failure serve.Write = failure.Write
serve_failure serve.Memory = failure.Memory

-- the failure to make a schema
abbrev pub schema_failure : SchemaFault → Failure
schema_failure schema.UnknownForm = failure.UnknownForm
schema_failure schema.Memory = failure.Memory

-- the failure to export
abbrev pub export_failure : ExportFault → Failure
export_failure export.Store = failure.Store stored.Store
export_failure export.Write = failure.Write
export_failure export.Memory = failure.Memory

-- the failure that a fault of declarations is: want of memory is told as such
abbrev pub IsOfDeclarations : DeclFault → Failure → Type 0
IsOfDeclarations fault told = ((fault ≡ decl.Memory) × (told ≡ failure.Memory)) ⊎ ((fault ≢ decl.Memory) × (told ≡ failure.Declarations fault))

-- the same of a fault of the database
abbrev pub IsOfStore : OpenStoreFault → Failure → Type 0
IsOfStore fault told = ((fault ≡ stored.Memory) × (told ≡ failure.Memory)) ⊎ ((fault ≢ stored.Memory) × (told ≡ failure.Store fault))

-- the same of a refused opening
abbrev pub IsOfOpening : OpenFault → Failure → Type 0
IsOfOpening (opening.Declarations fault) told = IsOfDeclarations fault told
IsOfOpening (opening.Store fault) told = told ≡ failure.Store fault
IsOfOpening opening.Memory told = told ≡ failure.Memory

-- Writing failed: want of memory, where this holds, or a write or the flush, where that does. No other failure is told.
abbrev pub IsUnwritten : Type 0 → Type 0 → Failure → Type 0
IsUnwritten none broke failure.Memory = none
IsUnwritten none broke failure.Write = broke
IsUnwritten none broke _ = ⊥

-- Declarations were refused by a fault of which this holds, or writing failed, where that does; want of memory is told at any place.
abbrev pub IsRefused : (DeclFault → Type 0) → Type 0 → Failure → Type 0
IsRefused faulty broke (failure.Declarations fault) = faulty fault
IsRefused faulty broke failure.Write = broke
IsRefused faulty broke failure.Memory = ⊤
IsRefused faulty broke _ = ⊥

-- the same, or no form of that name is declared, where this holds
abbrev pub IsRefusedForForm : (DeclFault → Type 0) → Type 0 → Type 0 → Failure → Type 0
IsRefusedForForm faulty unknown broke failure.UnknownForm = unknown
IsRefusedForForm faulty unknown broke other = IsRefused faulty broke other

-- Serving lines failed: a read, where this holds; a write or the flush, where that does; or before, where the last does. Words and forms aren't asked.
abbrev pub IsUnserved : Type 0 → Type 0 → Type 0 → Failure → Type 0
IsUnserved unread broke none failure.Read = unread
IsUnserved unread broke none failure.Write = broke
IsUnserved unread broke none failure.NotUtf8 = ⊥
IsUnserved unread broke none failure.UnknownForm = ⊥
IsUnserved unread broke none _ = none
