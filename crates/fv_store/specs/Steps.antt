-- What changes do to a database, and a migration: for private clauses, but for `IsUpgraded`, `CausesStore` and what `kept_declarations` is stated by.
pub use Rattle.fv_store_tables.specs.Causes.{IsRefusal, IsExcused}
pub use Rattle.fv_store_tables.specs.Stands.{IsSettled}
pub use Rattle.fv_store_tables.specs.Steps.{Advances, Inside}
use Rattle.std.specs.Prelude.{◌≡◌, ◌≢◌, ◌⊎◌, ℕ, ℤ, pos, IsTrue, List, [], None, Some}
use Rattle.sqlite.specs.declared.error.Error.{Error}
use Rattle.sqlite.specs.declared.error.Error.TheVariants.{SqliteFailure}
use Rattle.sqlite.specs.declared.error.ErrorCode.TheVariants.{OutOfMemory}
use Rattle.sqlite.specs.declared.types.Value.TheVariants.{Int, Blob as Raw}
use Rattle.sqlite.specs.Effect.{Database}
use Rattle.sqlite.specs.Order.{Row, column}
use Rattle.sqlite.specs.State.{State, FailsToQuery, HasCleanDisk, Shown}
use Rattle.fv_store_tables.specs.About.{ShowsFirst, about_query}
use Rattle.fv_store_tables.specs.Olds.{Olds}
use Rattle.fv_store_tables.specs.Stands as tables
use Rattle.fv_store_upgrade.specs.Upgraded.{AllShort, AllUpgrade, HasFew, upgraded}
use Rattle.fv_store.specs.declared.changes.Change.{Change}
use Rattle.fv_store.specs.Changes.{after_all}
use Rattle.fv_store.specs.Causes.{HasFailed, IsShortAbout, LeavesRoom, rows_of_all}
use Rattle.fv_store.specs.Faults.{about_fault, IsAboutFault}
use Rattle.fv_store.specs.Records.{Records}
use Rattle.fv_store.specs.Stands.{about_rows, first_version, HasAbout, HasOtherAbout, Spells, IsBlank, IsEither, KeepsFirst, TellsAbout}
use Rattle.fv_store.specs.Written.{writings, entries}
use Rattle.fv_store.specs.declared.fault.OpenStoreFault.{OpenStoreFault}
use Rattle.fv_store.specs.declared.fault.OpenStoreFault.TheVariants as refusal

-- the declarations and what is written of the records, which a connection outside a transaction spells, now and as committed
abbrev pub Keeps : State → List ℕ → Records → Type 0
Keeps s declarations m = tables.Keeps s (about_rows declarations) (entries (writings m))

-- a change of the records that the database spells; so many fewer rows have room then
abbrev pub Makes : ℕ → (Records → Records) → Database → Database → Type 0
Makes taken change old new =
    (d : List ℕ) (m : Records) → Spells old d (writings m) → Spells new d (writings (change m)) × LeavesRoom taken old new

-- these changes in order
abbrev pub MakesAll : List Change → Database → Database → Type 0
MakesAll cs = Makes (rows_of_all cs) (after_all cs)

-- the row of `about`, where there is one, is taken, and these are its declarations
abbrev pub IsTaken : State → List ℕ → Type 0
IsTaken s text = (version : ℤ) (stored : List ℕ) → TellsAbout version stored s.now → IsEither version × (text ≡ stored)

-- the same, with its version
abbrev pub IsTakenAs : State → ℤ → List ℕ → Type 0
IsTakenAs s number text =
    (version : ℤ) (stored : List ℕ) → TellsAbout version stored s.now → IsEither version × (number ≡ version) × (text ≡ stored)

-- Where it was of version 1, each row's text is a bundle by its form, and tables of version 2 keep the same declarations and what those rows
-- are there.
abbrev pub IsUpgraded : State → State → Type 0
IsUpgraded old new =
    (d : List ℕ) (m : Olds) → KeepsFirst old d m → (HasCleanDisk new → AllUpgrade m) × tables.Keeps new (about_rows d) (upgraded m)

-- a refusal for the row of `about` comes where that is its fault, whatever the tables are, and never for a blank database
abbrev pub IsCaused : State → OpenStoreFault → Type 0
IsCaused s e = IsAboutFault e → IsTrue s.is_open × (IsBlank s.now → ⊥) × HasOtherAbout s × ((version : ℤ) (stored : List ℕ)
    → TellsAbout version stored s.now → about_fault version ≡ Some e)

-- of a refusal to open a store only a failure of the disk or a shut connection is the cause
abbrev pub IsOpenExcused : State → State → OpenStoreFault → Type 0
IsOpenExcused old new e = e ≡ refusal.Store → HasFailed old new

-- where Store is told for the disk alone: tables that tell another version than 1; those of 1, of records, short and few; none, for short declarations
abbrev pub FailsByDisk : State → List ℕ → Type 0
FailsByDisk old given =
    ((version : ℤ) × (kept : List ℕ) × TellsAbout version kept old.now × (version ≢ pos first_version))
    ⊎ ((kept : List ℕ) × (m : Olds) × KeepsFirst old kept m × AllUpgrade m × IsShortAbout kept × AllShort (upgraded m) × HasFew m)
    ⊎ (IsBlank old.now × IsShortAbout given)

-- `about` gives nothing, whatever the tables are: the query is refused for them or by the disk; it shows no row; or it shows one without a number of
-- a version first, or with one that is taken and no bytes behind it
abbrev pub IsUnread : State → State → Type 0
IsUnread old new = ((e : Error) × (e ≢ SqliteFailure OutOfMemory) × FailsToQuery about_query [] old new e) ⊎ (Shown about_query [] old new []
    ⊎ ((row : Row) × ShowsFirst old row
    × ((version : ℤ) → column row 0 ≡ Int version → IsEither version × ((declarations : List ℕ) → column row 1 ≡ Raw declarations → ⊥))))

-- the same of a database that isn't blank, or it shows version 1
abbrev pub IsUnreadOrFirst : State → State → Type 0
IsUnreadOrFirst old new = IsUnread old new ⊎ ((kept : List ℕ) × HasAbout old (pos first_version) kept)

-- Why Store is told outside a transaction: the disk alone, where tables tell another version than 1, where records of 1 are short and few, and for
-- short declarations over a blank database; and over one that isn't blank, whatever its tables are, `about` is unread, or shows version 1.
pub record CausesStore (old new : State) (given : List ℕ) : Type 0 where
  pub second : (version : ℤ) (kept : List ℕ) → TellsAbout version kept old.now → version ≢ pos first_version → HasFailed old new
  pub first : (kept : List ℕ) (m : Olds) → KeepsFirst old kept m → AllUpgrade m → IsShortAbout kept → AllShort (upgraded m) → HasFew m → HasFailed old new
  pub blank : IsBlank old.now → IsShortAbout given → HasFailed old new
  pub other : (IsBlank old.now → ⊥) → IsUnread (record old { step_limit = None }) new ⊎ ((kept : List ℕ) × HasAbout old (pos first_version) kept)
