-- The tables of version 1, which keep each record in one row.
use Rattle.std.specs.Prelude.{[], ◌∷◌, codes}
use Rattle.sqlite.specs.Change.{created}
use Rattle.sqlite.specs.Schema.{Schema}
use Rattle.fv_store_tables.specs.Tables.{words, about, record_table, no_schema}

-- `about`, which is that of version 2, and a `record` whose rows keep a record's objects in one text
abbrev pub old_schema : Schema
old_schema = created (created no_schema about) (record record_table { columns = words (codes "id") ∷ words (codes "form") ∷ words (codes "bundle") ∷ [] })
