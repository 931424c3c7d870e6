-- Records that are written one after another, for private clauses.
use Rattle.std.specs.Prelude.{◌+◌, ℕ, List, [], ◌∷◌, Option, length, map, option_map, string_bytes}
use Rattle.sqlite.specs.Effect.{Database}
use Rattle.fv_store_tables.specs.Causes.{AreShort, IsShortHead}
use Rattle.fv_store_tables.specs.Changes.{AllTexts, AreApart, NamedTexts}
use Rattle.fv_store_tables.specs.Olds.{Old}
use Rattle.fv_store_tables.specs.Stands.{Entry, TableEntries, with_entry}
use Rattle.fv_store_tables.specs.Steps.{Turns}
use Rattle.fv_store_upgrade.specs.declared.records.NewObject.{NewObject}
use Rattle.fv_store_upgrade.specs.declared.records.NewRecord.{NewRecord}
use Rattle.fv_store_upgrade.specs.declared.records.NewRows.{NewRows}
use Rattle.fv_store_upgrade.specs.Upgraded.{entry_in}

-- a record with its id
abbrev pub Named : Type 0
Named = List ℕ × Entry

-- the record that a row of version 1 is, with its id
abbrev pub named_in : List ℕ × Old → Option Named
named_in e = option_map (λ k. (e.0, k)) (entry_in e.1)

-- an object, as the code has it
abbrev pub new_object_view : NewObject → NamedTexts
new_object_view o = (string_bytes o.name, record { kind = string_bytes o.kind; fields = string_bytes o.fields })

-- objects
abbrev pub new_objects_view : List NewObject → AllTexts
new_objects_view os = map new_object_view os

-- a record
abbrev pub new_rows_view : NewRows → Entry
new_rows_view r = record { form = string_bytes r.form; root = string_bytes r.root; objects = new_objects_view r.objects.items }

-- the same with its id
abbrev pub new_view : NewRecord → Named
new_view r = (string_bytes r.id, new_rows_view r.rows)

-- as the code has them
abbrev pub news_view : List NewRecord → List Named
news_view rs = map new_view rs

-- these records are put, one after another
abbrev pub all_put : List Named → TableEntries → TableEntries
all_put [] m = m
all_put (k ∷ ks) m = all_put ks (with_entry k.0 k.1 m)

-- how many rows they take
abbrev pub rows_taken : List Named → ℕ
rows_taken [] = 0
rows_taken (k ∷ ks) = (1 + length k.1.objects) + rows_taken ks

-- no two objects of one record have one name
abbrev pub AllApart : List Named → Type 0
AllApart [] = Unit {0}
AllApart (k ∷ ks) = AreApart k.1.objects × AllApart ks

-- no row of one of them is too long for the database
abbrev pub EachShort : List Named → Type 0
EachShort [] = Unit {0}
EachShort (k ∷ ks) = (IsShortHead k.0 (record { form = k.1.form; root = k.1.root }) × AreShort k.0 k.1.objects) × EachShort ks

-- the tables hold these records as well, where the objects of each are apart
abbrev pub Puts : List Named → Database → Database → Type 0
Puts ks = Turns (rows_taken ks) (λ m. AllApart ks) (all_put ks)
