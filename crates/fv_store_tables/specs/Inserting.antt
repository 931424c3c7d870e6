-- INSERTs of several objects of a record, with the record's id and three parameters for each object.
use Rattle.std.specs.Prelude.{◌≡◌, ◌⊎◌, ◌+◌, ◌-◌, ℕ, zero, suc, List, [], ◌∷◌, ◌++◌, codes, decimal, None}
use Rattle.sqlite.specs.declared.types.Value.TheVariants.{Text as Words}
use Rattle.sqlite.specs.Order.{Row}
use Rattle.sqlite_rules.specs.Lists.{Has}
use Rattle.fv_store_tables.specs.Stands.{Maps}
use Rattle.fv_store_tables.specs.Changes.{NamedTexts, AllTexts, AreApart}

-- so many rows are put by one statement
abbrev pub IsRun : ℕ → Type 0
IsRun n = (n ≡ 1) ⊎ (n ≡ 2) ⊎ (n ≡ 4) ⊎ (n ≡ 8) ⊎ (n ≡ 16)

-- a parameter, by its number
abbrev pub parameter : ℕ → List ℕ
parameter n = codes "?" ++ decimal n

-- the values of a row: the id, which is the first parameter of all rows, and three parameters from this one on
abbrev pub values_text : ℕ → List ℕ
values_text n = codes "(?1, " ++ parameter n ++ codes ", " ++ parameter (n + 1) ++ codes ", " ++ parameter (n + 2) ++ codes ")"

-- those of so many more rows, from this parameter on
abbrev pub more_values : ℕ → ℕ → List ℕ
more_values zero n = []
more_values (suc rows) n = codes ", " ++ values_text n ++ more_values rows (n + 3)

-- the statement that puts so many rows, one at least
abbrev pub insert_of : ℕ → List ℕ
insert_of rows = codes "INSERT INTO object (rec, name, kind, fields) VALUES " ++ values_text 2 ++ more_values (rows - 1) 5

-- the parameters of objects
abbrev pub object_values : AllTexts → Row
object_values [] = []
object_values (o ∷ os) = Words o.0 ∷ Words o.1.kind ∷ Words o.1.fields ∷ object_values os

-- those of objects of a record
abbrev pub row_values : List ℕ → AllTexts → Row
row_values id os = Words id ∷ object_values os

-- no two of these have one name, and the record has none of them
abbrev pub AreNew : List ℕ → AllTexts → Maps → Type 0
AreNew id os t = AreApart os × ((o : NamedTexts) → Has os o → t.parts (id, o.0) ≡ None)
