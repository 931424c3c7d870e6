-- The records of version 1, and the tables of version 2 in place of those that kept them.
use Rattle.std.specs.Prelude.{◌≡◌, ◌||◌, ◌<◌, ◌^◌, ℕ, ℤ, Bool, false, IsTrue, IsUtf8, bytes_eq, string_bytes, List, [], ◌∷◌, map, Option, Some}
use Rattle.std.specs.List.{AllByRecursion}
use Rattle.sqlite.specs.declared.types.Value.TheVariants.{Int, Text as Words}
use Rattle.sqlite.specs.Order.{Row}
use Rattle.sqlite.specs.Effect.{Database}
use Rattle.sqlite.specs.State.{State, HasCleanDisk}
use Rattle.sqlite_rules.specs.Lists.{Has}
use Rattle.fv_store_tables.specs.declared.migrating.OldRow.{OldRow}
use Rattle.fv_store_tables.specs.FirstTables.{old_schema}
use Rattle.fv_store_tables.specs.Rows.{HasRows}
use Rattle.fv_store_tables.specs.Stands.{about_row}
use Rattle.fv_store_tables.specs.Causes.{HasRooms}
use Rattle.fv_store_tables.specs.Creating.{IsMade, IsEmpty}

-- what a row of `record` of version 1 keeps beside the id: the form and the bundle's text
pub record Old : Type 0 where
  pub form : List ℕ
  pub bundle : List ℕ

-- records of version 1 by their ids
abbrev pub Olds : Type 0
Olds = List ℕ → Option Old

-- a row of `record` of version 1: its rowid, the id, the form and the bundle's text
abbrev pub old_row : ℤ → List ℕ → Old → Row
old_row n id o = Int n ∷ Words id ∷ Words o.form ∷ Words o.bundle ∷ []

-- what a row keeps as text is text
abbrev pub IsTextOld : List ℕ → Old → Type 0
IsTextOld id o = IsUtf8 id × IsUtf8 o.form × IsUtf8 o.bundle

-- the tables of version 1, with these rows of `about` and the rows of these records
pub record SpellsFirst (db : Database) (rows : List Row) (m : Olds) : Type 0 where
  pub schema : db.schema ≡ old_schema
  pub about : db.trees 0 ≡ rows
  -- rows of the rowid, the id, the form and the bundle's text; what they keep as text is text
  pub records : HasRows (λ n id (o : Old). Int n ∷ Words id ∷ Words o.form ∷ Words o.bundle ∷ [])
      (λ id (o : Old). IsUtf8 id × IsUtf8 o.form × IsUtf8 o.bundle) (db.trees 1) m

-- What a connection outside a transaction keeps of version 1, now and as committed. It says nothing once the disk has lied or has shut the connection.
abbrev pub KeepsOlds : State → List Row → Olds → Type 0
KeepsOlds s rows m = HasCleanDisk s → IsTrue s.is_open → SpellsFirst s.now rows m × SpellsFirst s.committed rows m

-- ---- the records as a list

-- a record of that id is among these
abbrev pub has_id : List ℕ → List (List ℕ × Old) → Bool
has_id id [] = false
has_id id (e ∷ es) = bytes_eq e.0 id || has_id id es

-- no two have one id
abbrev pub AreOnce : List (List ℕ × Old) → Type 0
AreOnce [] = Unit {0}
AreOnce (e ∷ es) = (has_id e.0 es ≡ false) × AreOnce es

-- these are the records with their ids, each once, in some order
pub record AreOlds (es : List (List ℕ × Old)) (m : Olds) : Type 0 where
  pub sound : (e : List ℕ × Old) → Has es e → m e.0 ≡ Some e.1
  pub complete : (id : List ℕ) (o : Old) → m id ≡ Some o → Has es (id, o)
  pub once : AreOnce es

-- what a query shows of a record
abbrev pub shown_old : List ℕ × Old → Row
shown_old e = Words e.0 ∷ Words e.1.form ∷ Words e.1.bundle ∷ []

-- a record's id, form and bundle are text
abbrev pub IsTextRecord : List ℕ × Old → Type 0
IsTextRecord e = IsTextOld e.0 e.1

-- the rows show the records, each once, and they are text
abbrev pub ShowsOlds : List Row → Olds → Type 0
ShowsOlds rows m = (es : List (List ℕ × Old)) × AreOlds es m × AllByRecursion IsTextRecord es × (rows ≡ map shown_old es)

-- a record of version 1 with its id, as it is handed out
abbrev pub old_view : OldRow → List ℕ × Old
old_view o = (string_bytes o.id, record { form = string_bytes o.form; bundle = string_bytes o.bundle })

-- records with their ids
abbrev pub olds_view : List OldRow → List (List ℕ × Old)
olds_view os = map old_view os

-- ---- the tables are replaced

-- the tables of version 1, with these rows of `about`
abbrev pub IsOld : List Row → Database → Type 0
IsOld rows db = (db.schema ≡ old_schema) × (db.trees 0 ≡ rows)

-- and these are the version and the declarations
abbrev pub IsFirst : List ℕ → Database → Type 0
IsFirst declarations = IsOld (about_row 1 declarations ∷ [])

-- The tables of version 2 under these declarations, with no record. The rows of both tables find room, if they are fewer than 2 ^ 63.
abbrev pub IsVacant : List ℕ → Database → Type 0
IsVacant declarations db = IsEmpty declarations db × ((n : ℕ) → n < 2 ^ 63 → HasRooms n db)

-- the tables of version 2 stand in place of those of version 1, under the same declarations
abbrev pub Empties : Database → Database → Type 0
Empties old new = (declarations : List ℕ) → IsFirst declarations old → IsVacant declarations new

-- the version is 2 since, where it was 1 and the tables of version 2 had been made
abbrev pub Renews : Database → Database → Type 0
Renews old new = (declarations : List ℕ) → IsMade (about_row 1 declarations ∷ []) old → IsVacant declarations new
