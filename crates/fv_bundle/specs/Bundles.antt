-- Bundles of objects.
pub use Rattle.fv_datum.specs.Ascending.{IsAscending}
use Rattle.std.specs.Prelude.{ℕ, List}
use Rattle.fv_datum.specs.Data.{Data}

-- an object: its type's name, and names of fields with data. `FitsType` says that they are the type's fields, in their order
pub record Thing : Type 0 where
  pub type_name : List ℕ
  pub fields : List (List ℕ × Data)

-- objects by their names
abbrev pub Things : Type 0
Things = List (List ℕ × Thing)

-- the root's name, and names with objects. `IsWellTyped` says that the names ascend by their bytes and that the root is among them
pub record Bundled : Type 0 where
  pub root : List ℕ
  pub objects : Things
