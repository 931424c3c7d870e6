-- For private clauses: how far an export has come.
use Rattle.std.specs.Prelude.{◌≡◌, ◌≢◌, ◌++◌, ◌≤◌, ℕ, List, [], Option, Some, None, option_map, Result, Ok, MatchResult, IsUtf8, length}
use Rattle.std.specs.Io.KnownBytes.{Appends}
use Rattle.std.specs.List.{AllByRecursion}
use Rattle.std.specs.Map.{keys_of}
use Rattle.sqlite.specs.State.{State}
use Rattle.fv_datum.specs.declared.parsing.JsonFault.{JsonFault}
use Rattle.fv_datum.specs.declared.parsing.JsonFault.TheVariants as json_fault
use Rattle.fv_engine.specs.Exports.{record_line, record_lines, declarations_line, AreAllOf, AreFirstOf, Exports, ExportsFront}
use Rattle.fv_engine.specs.declared.exporting.ExportFault.{ExportFault}
use Rattle.fv_engine.specs.declared.exporting.ExportFault.TheVariants.{Store, Write, Memory}
use Rattle.fv_engine_pending.specs.Passes.{AreKnown, IsUpTo, IsFull, Reaches, Sure}
use Rattle.fv_engine_pending.specs.Rejudging.{HasFewIds}
use Rattle.fv_engine_lines.specs.Reads.{Times}
use Rattle.fv_engine_lines.specs.Writes.{AppendsFront, Breaks}
use Rattle.fv_store.specs.Causes.{HasFailed}
use Rattle.fv_store.specs.Records.{Kept, Records}
use Rattle.fv_store.specs.declared.fault.StoreFault.{StoreFault}
use Rattle.fv_store.specs.declared.fault.StoreFault.TheVariants as store

-- a fault of the store is one of the export
abbrev pub of_store : StoreFault → ExportFault
of_store store.Store = Store
of_store store.Memory = Memory

-- why a text isn't read is one, too: where the disk is clean, what is written of a record is JSON
abbrev pub of_json : JsonFault → ExportFault
of_json json_fault.NotJson = Store
of_json json_fault.Memory = Memory

-- a record that has no fault
abbrev pub faultless : Kept → Result Kept (Unit {0})
faultless k = Ok k

-- each record, none of which has a fault
abbrev pub all_kept : Records → List ℕ → Option (Result Kept (Unit {0}))
all_kept m id = option_map faultless (m id)

-- a line was written, or a front of it, and then the store isn't at fault
abbrev pub WritesLine : {X : Type 0} → Option (List ℕ) → Option (List ℕ) → List ℕ → Result X ExportFault → Type 0
WritesLine w v line r = MatchResult r (λ _. Appends w v line) (λ f. (f ≢ Store) × AppendsFront w v line)

-- the output took bytes, each call some
abbrev pub Grows : {O : Type 0} → (O → Option (List ℕ)) → (O → O → Type 0) → O → O → Type 0
Grows contents takes old new = (bs : List ℕ) × Appends (contents old) (contents new) bs × ((n : ℕ) × Times takes n old new)

-- where this fault is that a write failed, bytes were written, and then a call of the output failed or a write took nothing
abbrev pub TellsWrite : {O : Type 0} → (O → Option (List ℕ)) → (O → O → Type 0) → (O → O → Type 0) → O → O → ExportFault → Type 0
TellsWrite contents takes fails old new f = f ≡ Write → (bs : List ℕ) × Breaks contents takes fails old new bs

module _ (old new : State) (w v : Option (List ℕ)) where
  -- the id's record was written
  abbrev pub OneDone : List ℕ → Type 0
  OneDone id = Sure old new (λ m. (k : Kept) × (m id ≡ Some k) × Appends w v (record_line id k))

  -- why it wasn't, and what was
  abbrev pub OneFails : List ℕ → ExportFault → Type 0
  OneFails id f = Sure old new (λ m. (k : Kept) → m id ≡ Some k → (f ≡ Store → HasFailed old new) × AppendsFront w v (record_line id k))

  -- the record of the empty id was written, if there is one
  abbrev pub FirstDone : Type 0
  FirstDone = Sure old new (λ m. (done : List (List ℕ × Kept)) × Reaches (all_kept m) [] done × Appends w v (record_lines done))

  abbrev pub FirstFails : ExportFault → Type 0
  FirstFails f = Sure old new (λ m. (f ≡ Store → HasFailed old new)
      × (first : List (List ℕ × Kept)) × AreFirstOf m first × AppendsFront w v (record_lines first))

  -- the records of these ids were written
  abbrev pub PageDone : List (List ℕ) → Type 0
  PageDone ids = Sure old new (λ m. (read : List (List ℕ × Kept)) × (keys_of read ≡ ids) × AreKnown (all_kept m) read × Appends w v (record_lines read))

  abbrev pub PageFails : List (List ℕ) → ExportFault → Type 0
  PageFails ids f = Sure old new (λ m. AllByRecursion (λ id. (k : Kept) × (m id ≡ Some k)) ids → (f ≡ Store → HasFailed old new)
      × (read : List (List ℕ × Kept)) × (more : List (List ℕ)) × (ids ≡ keys_of read ++ more) × AreKnown (all_kept m) read
      × AppendsFront w v (record_lines read))

  -- the records of the next page above an id were written, to its last id or to the end
  abbrev pub NextDone : List ℕ → Option (List ℕ) → Type 0
  NextDone above last = Sure old new (λ m. (read : List (List ℕ × Kept)) × IsFull last read
      × ((done : List (List ℕ × Kept)) → Reaches (all_kept m) above done → IsUpTo (all_kept m) last (done ++ read))
      × Appends w v (record_lines read))

  abbrev pub NextFails : List ℕ → ExportFault → Type 0
  NextFails above f = Sure old new (λ m. (done : List (List ℕ × Kept)) → Reaches (all_kept m) above done → (f ≡ Store → HasFailed old new)
      × (read : List (List ℕ × Kept)) × AreFirstOf m (done ++ read) × AppendsFront w v (record_lines read))

  -- all records were written
  abbrev pub AllDone : Type 0
  AllDone = Sure old new (λ m. (all : List (List ℕ × Kept)) × AreAllOf m all × Appends w v (record_lines all))

  abbrev pub AllFails : ExportFault → Type 0
  AllFails f = Sure old new (λ m. (f ≡ Store → HasFewIds m → HasFailed old new)
      × (first : List (List ℕ × Kept)) × AreFirstOf m first × AppendsFront w v (record_lines first))

  -- and the declarations before them
  abbrev pub StoreDone : List ℕ → Type 0
  StoreDone text = Sure old new (λ m. Exports text m w v)

  abbrev pub StoreFails : List ℕ → ExportFault → Type 0
  StoreFails text f = Sure old new (λ m. (f ≡ Store → HasFewIds m → IsUtf8 text → HasFailed old new) × ExportsFront text m w v)
