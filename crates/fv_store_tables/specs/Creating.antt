-- The stages in which the tables are made, each as what holds of the database.
use Rattle.std.specs.Prelude.{◌≡◌, List, [], ◌∷◌, ℕ, None}
use Rattle.sqlite.specs.Order.{Row}
use Rattle.sqlite.specs.Effect.{Database}
use Rattle.fv_store_tables.specs.Tables.{no_schema, bare_schema, half_schema, store_schema}
use Rattle.fv_store_tables.specs.Stands.{about_row, TableEntries, TablesStand}

-- no table, index or view
abbrev pub IsBlank : Database → Type 0
IsBlank db = db.schema ≡ no_schema

-- `about` alone, with these rows
abbrev pub IsBare : List Row → Database → Type 0
IsBare rows db = (db.schema ≡ bare_schema) × (db.trees 0 ≡ rows)

-- `about` with these rows, and `record` with none
abbrev pub IsHalf : List Row → Database → Type 0
IsHalf rows db = (db.schema ≡ half_schema) × (db.trees 0 ≡ rows) × (db.trees 1 ≡ [])

-- `about` with these rows, and `record` and `object` with none
abbrev pub IsMade : List Row → Database → Type 0
IsMade rows db = (db.schema ≡ store_schema) × (db.trees 0 ≡ rows) × (db.trees 1 ≡ []) × (db.trees 3 ≡ [])

-- no record
abbrev pub no_entries : TableEntries
no_entries id = None

-- the tables of version 2, with the declarations and no record
abbrev pub IsEmpty : List ℕ → Database → Type 0
IsEmpty declarations db = TablesStand db (about_row 2 declarations ∷ []) no_entries

-- from databases of one kind to those of another
abbrev pub Leads : (Database → Type 0) → (Database → Type 0) → Database → Database → Type 0
Leads From To old new = From old → To new

-- the same, whatever rows `about` has, which stay
abbrev pub Builds : (List Row → Database → Type 0) → (List Row → Database → Type 0) → Database → Database → Type 0
Builds From To old new = (rows : List Row) → From rows old → To rows new
