-- The records that a database stands for.
pub use Rattle.fv_store_tables.specs.Creating.{IsBlank}
pub use Rattle.fv_store_tables.specs.Stands.{Frame, IsLive, Stays}
pub use Rattle.fv_store_tables.specs.About.{ShowsFirst, TellsAbout}
use Rattle.std.specs.Prelude.{◌≡◌, ◌⊎◌, ◌&&◌, ℕ, ℤ, pos, Bool, false, IsTrue, List, [], ◌∷◌, codes, length, nat_eq, option_map}
use Rattle.sqlite.specs.declared.types.Value.TheVariants.{Int, Blob as Raw}
use Rattle.sqlite.specs.Effect.{Database}
use Rattle.sqlite.specs.Order.{Row, column}
use Rattle.sqlite.specs.State.{State, HasCleanDisk}
use Rattle.sqlite.specs.Table.{Table}
use Rattle.sqlite_schema.specs.Names.{same_name}
use Rattle.sqlite_schema.specs.declared.schema.Column.{Column}
use Rattle.fv_store_tables.specs.Olds as first
use Rattle.fv_store_tables.specs.Olds.{Old, Olds}
use Rattle.fv_store_tables.specs.Stands as tables
use Rattle.fv_store.specs.Records.{Kept, Records, Contents, AllFit, no_records}
use Rattle.fv_store.specs.Texts.{bundle_text}
use Rattle.fv_store.specs.Written.{Writings, writings, entries, entry_of}

-- the version of the tables
abbrev pub tables_version : ℕ
tables_version = 2

-- the version of the tables that are migrated
abbrev pub first_version : ℕ
first_version = 1

-- the one row of `about`: this version and these declarations
abbrev pub about_rows : List ℕ → List Row
about_rows declarations = tables.about_row tables_version declarations ∷ []

-- The tables, with the declarations, a row of `record` for each record and a row of `object` for each of its objects: what is written of it.
abbrev pub Spells : Database → List ℕ → Writings → Type 0
Spells db declarations ws = tables.TablesStand db (about_rows declarations) (entries ws)

-- the tables, with the declarations and what is written of each record, a row of `record` and one of `object` for each of its objects, and each fits
pub record Stands (db : Database) (c : Contents) : Type 0 where
  pub spells : tables.TablesStand db (about_rows c.bytes) (λ id. option_map entry_of (writings c.records id))
  pub fit : AllFit c

-- What a connection outside a transaction stands for, now and as committed. It says nothing once the disk has lied or has shut the connection.
abbrev pub HoldsRecords : State → Contents → Type 0
HoldsRecords s c = HasCleanDisk s → IsTrue s.is_open → Stands s.now c × Stands s.committed c

-- ---- files of version 1

-- what a row of version 1 keeps of a record: its form and its bundle's text
abbrev pub old_of : Kept → Old
old_of k = record { form = k.form; bundle = bundle_text k.bundle }

-- what a row of version 1 keeps of each record: its form and its bundle's text
abbrev pub olds : Records → Olds
olds m id = option_map (λ k. record { form = k.form; bundle = bundle_text k.bundle }) (m id)

-- what a connection outside a transaction keeps in tables of version 1, now and as committed: the declarations, and rows of records
abbrev pub KeepsFirst : State → List ℕ → Olds → Type 0
KeepsFirst s declarations m = HasCleanDisk s → IsTrue s.is_open
    → first.SpellsFirst s.now (tables.about_row first_version declarations ∷ []) m
    × first.SpellsFirst s.committed (tables.about_row first_version declarations ∷ []) m

-- the tables of version 1, with the declarations and a row of `record` for each record, and each record fits
pub record StandsFirst (db : Database) (c : Contents) : Type 0 where
  pub spells : first.SpellsFirst db (tables.about_row first_version c.bytes ∷ []) (olds c.records)
  pub fit : AllFit c

-- what a connection to a file of version 1 stands for, as `HoldsRecords` says it of version 2
abbrev pub HoldsFirst : State → Contents → Type 0
HoldsFirst s c = HasCleanDisk s → IsTrue s.is_open → StandsFirst s.now c × StandsFirst s.committed c

-- three columns of these names
abbrev pub are_columns : List ℕ → List ℕ → List ℕ → List Column → Bool
are_columns first second third (a ∷ b ∷ c ∷ []) = same_name a.name first && (same_name b.name second && same_name c.name third)
are_columns first second third _ = false

-- the two tables of version 1, by their names and those of their columns
abbrev pub are_first : List Table → Bool
are_first (about ∷ record_table ∷ []) =
    (same_name about.name (codes "about") && are_columns (codes "one") (codes "version") (codes "declarations") about.columns)
    && (same_name record_table.name (codes "record") && are_columns (codes "id") (codes "form") (codes "bundle") record_table.columns)
are_first _ = false

-- these, exactly one index (version 1 has one, that of the ids) and no view
abbrev pub HasFirstTables : Database → Type 0
HasFirstTables db = IsTrue (are_first db.schema.tables && (nat_eq (length db.schema.indexes) 1 && nat_eq (length db.schema.views) 0))

-- ---- opening

-- the versions of tables that are taken: one is migrated, the other is served
abbrev pub IsEither : ℤ → Type 0
IsEither version = (version ≡ pos first_version) ⊎ (version ≡ pos tables_version)

-- whatever the tables are, `about` shows this version, which is taken, and these declarations
abbrev pub HasAbout : State → ℤ → List ℕ → Type 0
HasAbout s version declarations = IsEither version × ((row : Row) × ShowsFirst s row × (column row 0 ≡ Int version) × (column row 1 ≡ Raw declarations))

-- it may be of version 1: tables and columns are named as there, and `about` shows that version, and no other if they are those tables
abbrev pub MayBeFirst : State → Type 0
MayBeFirst s = HasFirstTables s.now × ((declarations : List ℕ) × HasAbout s (pos first_version) declarations)
    × ((version : ℤ) (stored : List ℕ) → TellsAbout version stored s.now → version ≡ pos first_version)

-- whatever the tables are, `about` shows a version that isn't taken
abbrev pub HasOtherAbout : State → Type 0
HasOtherAbout s = (version : ℤ) × (row : Row) × ShowsFirst s row × (column row 0 ≡ Int version) × (IsEither version → ⊥)

-- the declarations of a database that isn't blank: those that `about` shows, and in version 1 tables and columns are named as there
abbrev pub IsTakenWith : List ℕ → State → Type 0
IsTakenWith declarations s = (version : ℤ) × HasAbout s version declarations × (version ≡ pos first_version → HasFirstTables s.now)

-- What a database hands to a store that is opened over it, with these declarations for a blank one: no record and these where it is blank, else what
-- it stands for, under its own, by the tables of either version.
abbrev pub Opens : State → List ℕ → Contents → Type 0
Opens s given c = (HasCleanDisk s → IsTrue s.is_open → IsBlank s.now × (c.bytes ≡ given) × (c.records ≡ no_records)) ⊎ (HoldsRecords s c ⊎ HoldsFirst s c)
