-- Ids in the order of their bytes, behind one of them, so many at most.
use Rattle.std.specs.Prelude.{◌≡◌, ℕ, List, ◌∷◌, [], take}
use Rattle.std.specs.Ordering.{nat_cmp}
use Rattle.std.specs.declared.cmp.Ordering.TheVariants.{Less}
use Rattle.std.specs.Cmp.Lexicographic.{slice_cmp}
use Rattle.std.specs.List.{AllByRecursion}
use Rattle.std.specs.List.Sorted.{IsStrictlySortedBy}
use Rattle.std.specs.Prelude.{IsUtf8, map, Some}
use Rattle.sqlite.specs.declared.types.Value.TheVariants.{Text as Words}
use Rattle.sqlite.specs.Order.{Row}
use Rattle.sqlite_rules.specs.Lists.{Has}
use Rattle.fv_store_tables.specs.Stands.{Entry, TableEntries}

-- all ids that are wanted above this one, each once, ascending by their bytes
pub record AreListed (Wanted : List ℕ → Type 0) (above : List ℕ) (ids : List (List ℕ)) : Type 0 where
  pub ascending : IsStrictlySortedBy (slice_cmp nat_cmp) ids
  pub sound : (id : List ℕ) → Has ids id → Wanted id × (slice_cmp nat_cmp above id ≡ Less)
  pub complete : (id : List ℕ) → Wanted id → slice_cmp nat_cmp above id ≡ Less → Has ids id

-- the first of them, so many at most
abbrev pub Lists : (List ℕ → Type 0) → List ℕ → ℕ → List (List ℕ) → Type 0
Lists Wanted above limit ids = (all : List (List ℕ)) × AreListed Wanted above all × (ids ≡ take limit all)

-- the id has a record of the form
abbrev pub HasForm : TableEntries → List ℕ → List ℕ → Type 0
HasForm m form id = (k : Entry) × (m id ≡ Some k) × (k.form ≡ form)

-- the id has a record
abbrev pub HasRecord : TableEntries → List ℕ → Type 0
HasRecord m id = (k : Entry) × (m id ≡ Some k)

-- the row that shows an id
abbrev pub id_row : List ℕ → Row
id_row id = Words id ∷ []

-- the rows show the first of the wanted ids above one, each a text
abbrev pub ShowsIds : List Row → (List ℕ → Type 0) → List ℕ → ℕ → Type 0
ShowsIds rows Wanted above limit =
    (ids : List (List ℕ)) × Lists Wanted above limit ids × AllByRecursion IsUtf8 ids × (rows ≡ map id_row ids)
