-- A record as it is handed out.
use Rattle.std.specs.Prelude.{◌≡◌, ◌≢◌, ℕ, List, [], ◌∷◌, Option, Some, None, map}
use Rattle.std.specs.List.{AllByRecursion}
use Rattle.sqlite.specs.Effect.{Database}
use Rattle.sqlite.specs.Order.{Row, column}
use Rattle.sqlite.specs.declared.types.Value.TheVariants.{Text as Words}
use Rattle.sqlite_rules.specs.Lists.{Has}
use Rattle.fv_store_tables.specs.declared.entry.RecordRows.{RecordRows}
use Rattle.fv_store_tables.specs.declared.entry.HeadRow.{HeadRow}
use Rattle.fv_store_tables.specs.declared.entry.ObjectRow.{ObjectRow}
use Rattle.fv_store_tables.specs.declared.entry.FoundRecord.{FoundRecord}
use Rattle.fv_store_tables.specs.Changes.{AllTexts}
use Rattle.fv_store_tables.specs.Tables.{store_schema}
use Rattle.fv_store_tables.specs.Stands.{Head, ObjectTexts, Entry, IsTextObject, ShowsHead, head_of, shown_part}

-- what a row of `record` shows
abbrev pub head_view : HeadRow → Head
head_view s = record { form = s.form.now; root = s.root.now }

-- an object with its name
abbrev pub row_view : ObjectRow → List ℕ × ObjectTexts
row_view o = (o.name.now, record { kind = o.kind.now; fields = o.fields.now })

-- objects with their names
abbrev pub things_view : List ObjectRow → AllTexts
things_view os = map row_view os

-- what the rows of a record keep
abbrev pub rows_view : RecordRows → Entry
rows_view s = record { form = s.form.now; root = s.root.now; objects = things_view s.objects.items }

-- these rows were found of a record, and there are none where there is no record
abbrev pub ShowsRecord : FoundRecord → Option Entry → Type 0
ShowsRecord f o = ShowsHead f.head.items (head_of o)
    × ((k : Entry) → o ≡ Some k → (f.objects.items ≡ map shown_part k.objects) × AllByRecursion IsTextObject k.objects)
    × (o ≡ None → f.objects.items ≡ [])

-- no row of `record` was found
abbrev pub ShowsNone : FoundRecord → Type 0
ShowsNone f = f.head.items ≡ []

-- where the tables are those of version 2, no row of `record` has that id, whatever else it keeps
abbrev pub LacksId : List ℕ → Database → Type 0
LacksId id db = db.schema ≡ store_schema → (row : Row) → Has (db.trees 1) row → column row 1 ≢ Words id

-- the first two columns
abbrev pub front_two : Row → Row
front_two row = column row 0 ∷ column row 1 ∷ []

-- the first three
abbrev pub front : Row → Row
front row = column row 0 ∷ column row 1 ∷ column row 2 ∷ []

-- the first four
abbrev pub front_four : Row → Row
front_four row = column row 0 ∷ column row 1 ∷ column row 2 ∷ column row 3 ∷ []
