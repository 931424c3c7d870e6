-- Why a store refuses.
pub use Rattle.fv_store_tables.specs.Causes.{HasFailed, HasRooms, IsShortAbout}
use Rattle.std.specs.Prelude.{ℕ, ◌+◌, List, [], ◌∷◌, length, string_bytes}
use Rattle.std.specs.List.{AllByRecursion}
use Rattle.sqlite.specs.Effect.{Database}
use Rattle.fv_store_tables.specs.Causes.{IsShortHead, IsShortPart}
use Rattle.fv_bundle.specs.Bundles.{Thing}
use Rattle.fv_bundle.specs.Views.{object_view, bundle_view}
use Rattle.fv_model.specs.Writing.{named_written}
use Rattle.fv_store.specs.declared.changes.Change.{Change}
use Rattle.fv_store.specs.declared.changes.Change.TheVariants.{Put, Object, Remove}
use Rattle.fv_store.specs.Records.{Kept}
use Rattle.fv_store.specs.Stored.{stored_view}
use Rattle.fv_store.specs.Written.{object_kept}

-- the row of an object of the id's record is not too long for the database
abbrev pub IsShortObject : List ℕ → List ℕ × Thing → Type 0
IsShortObject id o = IsShortPart (id, o.0) (object_kept (named_written o)).1

-- the rows of a record are not too long for the database
abbrev pub IsShort : List ℕ → Kept → Type 0
IsShort id k = IsShortHead id (record { form = k.form; root = k.bundle.root })
    × AllByRecursion (λ o. IsShortPart (id, o.0) (object_kept (named_written o)).1) k.bundle.objects

-- what a change writes is short
abbrev pub WritesShort : Change → Type 0
WritesShort (Put id s) = IsShort (string_bytes id) (stored_view s)
WritesShort (Object id name object) = IsShortObject (string_bytes id) (string_bytes name, object_view object)
WritesShort (Remove id) = Unit {0}

-- the same of each change
abbrev pub AreShort : List Change → Type 0
AreShort = AllByRecursion WritesShort

-- how many rowids a change takes in each of the two tables, at most
abbrev pub rows_of : Change → ℕ
rows_of (Put id s) = 1 + length (bundle_view s.bundle).objects
rows_of (Object id name object) = 0
rows_of (Remove id) = 0

-- the same of all changes
abbrev pub rows_of_all : List Change → ℕ
rows_of_all [] = 0
rows_of_all (c ∷ cs) = rows_of c + rows_of_all cs

-- at most so many rowids were given out in each table: where n rows and so many more had room before, n have it now
abbrev pub LeavesRoom : ℕ → Database → Database → Type 0
LeavesRoom taken old new = (n : ℕ) → HasRooms (n + taken) old → HasRooms n new
