-- What becomes of a database's files where a start is refused.
use Rattle.std.specs.Prelude.{◌≡◌, ◌≢◌, ◌⊎◌, ℕ, List, Option, None, MatchOption, string_bytes}
use Rattle.std.specs.Fs.{metadata_len, file_type, IsFile}
use Rattle.std.specs.declared.alloc.Global.{Global}
use Rattle.std.specs.declared.fs.Metadata.{Metadata}
use Rattle.std.specs.declared.io.ErrorKind.{ErrorKind}
use Rattle.std.specs.declared.string.String.{String}
use Rattle.sqlite.specs.declared.error.Error.{Error}
use Rattle.sqlite.specs.declared.error.Error.TheVariants.{SqliteFailure}
use Rattle.sqlite.specs.declared.error.ErrorCode.TheVariants.{DatabaseBusy, OutOfMemory}
use Rattle.formd_task.specs.declared.made.Absent.{Absent}
use Rattle.formd_task.specs.declared.made.NotOpened.{NotOpened}
use Rattle.formd_task.specs.declared.made.NotOpened.TheVariants.{Memory, Refused}
use Rattle.formd_task.specs.declared.location.Location.{Ghosts}

-- what is found is a file without any byte
abbrev pub IsEmptyFile : Metadata → Type 0
IsEmptyFile found = IsFile (file_type found) × (metadata_len found ≡ 0)

-- why a database isn't opened, by the error of the opening
abbrev pub NotOpenedBy : Error → NotOpened → Type 0
NotOpenedBy error fault =
    (error ≡ SqliteFailure OutOfMemory → fault ≡ Memory) × (error ≢ SqliteFailure OutOfMemory → fault ≡ Refused)

module _ {P O L C : Type 0} (g : Ghosts P O L C) where
  -- the file at a path, if one is named, was removed
  abbrev pub Removed : Option (String Global) → P → P → Type 0
  Removed path old new = MatchOption path (new ≡ old) (λ p. g.removes old (string_bytes p) new)

  -- all files that weren't there were removed, and then waited; nothing was done where both were there
  abbrev pub Cleared : Absent → P → P → Type 0
  Cleared absent old new = ((absent.log ≡ None) × (absent.database ≡ None) × (new ≡ old))
      ⊎ ((a b : P) × Removed absent.log old a × Removed absent.database a b × g.waits b 20 new)

  -- the file at a path was removed as it was found empty, or it was found to be none that is
  abbrev pub RemovedAt : P → List ℕ → P → Type 0
  RemovedAt old path new = ((found : Metadata) × g.finds old path found × IsEmptyFile found × g.removes old path new)
      ⊎ ((new ≡ old) × (((found : Metadata) × g.finds old path found × ¬ (IsEmptyFile found))
      ⊎ ((kind : ErrorKind) × g.fails old path kind)))

  -- the file at a path, if one is named, was removed where it was empty
  abbrev pub EmptyRemoved : Option (String Global) → P → P → Type 0
  EmptyRemoved path old new = MatchOption path (new ≡ old) (λ p. RemovedAt old (string_bytes p) new)

  -- all files that weren't there were removed where the database wasn't there, and else nothing was done
  abbrev pub ClearedIfNew : Absent → P → P → Type 0
  ClearedIfNew absent old new = MatchOption absent.database (new ≡ old) (λ _. Cleared absent old new)

  -- what becomes of the files of a database that isn't opened, by the error and what is left of it
  abbrev pub Undone : Absent → Error → Option L → P → P → Type 0
  Undone absent error left old new = MatchOption left
      ((error ≡ SqliteFailure DatabaseBusy → new ≡ old)
      × (error ≢ SqliteFailure DatabaseBusy
      → (mid : P) × EmptyRemoved absent.log old mid × EmptyRemoved absent.database mid new))
      (λ _. Cleared absent old new)
