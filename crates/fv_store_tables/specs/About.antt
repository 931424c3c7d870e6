-- What the row of `about` tells of a database of either version.
use Rattle.std.specs.Prelude.{◌≡◌, ◌⊎◌, pos, ℕ, ℤ, List, [], ◌∷◌, codes}
use Rattle.sqlite.specs.declared.types.Value.TheVariants.{Int, Null, Blob as Raw}
use Rattle.sqlite.specs.Order.{Row}
use Rattle.sqlite.specs.Effect.{Database}
use Rattle.sqlite.specs.State.{State, Begins}
use Rattle.fv_store_tables.specs.Tables.{store_schema}
use Rattle.fv_store_tables.specs.FirstTables.{old_schema}
use Rattle.fv_store_tables.specs.Causes.{HasRooms}
use Rattle.fv_store_tables.specs.Stands.{about_row, TableEntries, TablesStand}

-- the tables are those of version 1 or those of version 2
abbrev pub HasTables : Database → Type 0
HasTables db = (db.schema ≡ old_schema) ⊎ (db.schema ≡ store_schema)

-- the tables are those of version 1 or those of version 2, and `about` has one row: this version and this text of declarations
abbrev pub TellsAbout : ℤ → List ℕ → Database → Type 0
TellsAbout version text db = ((db.schema ≡ old_schema) ⊎ (db.schema ≡ store_schema)) × (db.trees 0 ≡ (Int (pos 1) ∷ Null ∷ Int version ∷ Raw text ∷ []) ∷ [])

-- what a query shows of the version and the declarations
abbrev pub shown_about : ℤ → List ℕ → Row
shown_about version declarations = Int version ∷ Raw declarations ∷ []

-- the first row shows them
abbrev pub ShowsAbout : List Row → ℤ → List ℕ → Type 0
ShowsAbout [] version declarations = ⊥
ShowsAbout (row ∷ rows) version declarations = row ≡ shown_about version declarations

-- that query
abbrev pub about_query : List ℕ
about_query = codes "SELECT version, declarations FROM about"

-- a row that an answer to it begins with, whatever tables there are: where `about` has one row, that row
abbrev pub ShowsFirst : State → Row → Type 0
ShowsFirst s row = Begins about_query [] s (row ∷ [])

-- The row of `about` has these declarations since, whatever it had. The version and the records stay, and so does the room for rows.
abbrev pub Redeclares : List ℕ → Database → Database → Type 0
Redeclares declarations old new =
    (d : List ℕ) (m : TableEntries) → TablesStand old (about_row 2 d ∷ []) m
    → TablesStand new (about_row 2 declarations ∷ []) m × ((n : ℕ) → HasRooms n old → HasRooms n new)
