-- Why the database refuses.
use Rattle.std.specs.Prelude.{◌≡◌, ◌≢◌, ◌⊎◌, ℕ, ◌+◌, ◌^◌, ◌<◌, ◌≤◌, ◌-◌, pos, negsuc, ◌+ℤ◌, ◌≤ℤ◌, ◌<ℤ◌, false, List, [], ◌∷◌, length}
use Rattle.sqlite.specs.Disk.{MoreFaults}
use Rattle.sqlite.specs.State.{State}
use Rattle.sqlite.specs.Edit.{id_in}
use Rattle.sqlite.specs.Order.{Row}
use Rattle.sqlite.specs.Tree.{rowid}
use Rattle.sqlite.specs.declared.error.Error.{Error}
use Rattle.sqlite.specs.declared.error.Error.TheVariants.{SqliteFailure}
use Rattle.sqlite.specs.declared.error.ErrorCode.TheVariants.{OutOfMemory}
use Rattle.sqlite_rules.specs.Lists.{Has}
use Rattle.sqlite.specs.Effect.{Database}
use Rattle.fv_store_tables.specs.Changes.{AllTexts}
use Rattle.fv_store_tables.specs.Stands.{Head, ObjectTexts, ObjectKey}

-- the disk has failed more often since, or the connection was shut before
abbrev pub HasFailed : State → State → Type 0
HasFailed old new = MoreFaults old.faults new.faults ⊎ (old.is_open ≡ false)

-- the database refused, for another cause than want of memory
abbrev pub IsRefusal : Error → Type 0
IsRefusal e = e ≢ SqliteFailure OutOfMemory

-- of a refusal only a failure of the disk or a shut connection is the cause
abbrev pub IsExcused : State → State → Error → Type 0
IsExcused old new e = IsRefusal e → HasFailed old new

-- So many more rows of a table can be given rowids: each rowid, which is at least - 2 ^ 63, is so far below 2 ^ 63.
pub record HasRoom (n : ℕ) (rows : List Row) : Type 0 where
  pub few : n < 2 ^ 63
  pub below : (row : Row) → Has rows row → (negsuc (2 ^ 63 - 1) ≤ℤ id_in (rowid row)) × ((id_in (rowid row) +ℤ pos n) <ℤ pos (2 ^ 63))

-- the row of a record is not too long for the database, which counts 18 bytes for each of its values beside their own
abbrev pub IsShortHead : List ℕ → Head → Type 0
IsShortHead id h = 72 + (length id + (length h.form + length h.root)) ≤ 10 ^ 9

-- the same of an object's row, which has five values
abbrev pub IsShortPart : ObjectKey → ObjectTexts → Type 0
IsShortPart at p = 90 + (length at.0 + (length at.1 + (length p.kind + length p.fields))) ≤ 10 ^ 9

-- so many more rows of each table
abbrev pub HasRooms : ℕ → Database → Type 0
HasRooms n db = HasRoom n (db.trees 1) × HasRoom n (db.trees 3)

-- the rows of these objects of a record are short
abbrev pub AreShort : List ℕ → AllTexts → Type 0
AreShort id [] = Unit {0}
AreShort id (o ∷ os) = IsShortPart (id, o.0) o.1 × AreShort id os

-- the row of `about` is not too long for the database
abbrev pub IsShortAbout : List ℕ → Type 0
IsShortAbout declarations = 72 + length declarations ≤ 10 ^ 9
