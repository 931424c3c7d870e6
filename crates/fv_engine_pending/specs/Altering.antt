-- What changes of the store do, and how many rowids they take.
use Rattle.std.specs.Prelude.{◌≡◌, ℕ, ◌+◌, List, [], ◌∷◌, IsSome, Option, Some, None, string_bytes}
use Rattle.fv_datum.specs.Lookup.{at_name}
use Rattle.fv_bundle.specs.Bundles.{Thing}
use Rattle.fv_bundle.specs.Limits.{most_objects}
use Rattle.fv_bundle.specs.Views.{object_view}
use Rattle.fv_engine_pending.specs.Ways.{Way}
use Rattle.fv_store.specs.Records.{Kept, Records, with_thing}
use Rattle.fv_store.specs.Stored.{stored_view}
use Rattle.fv_store.specs.declared.changes.Change.{Change}
use Rattle.fv_store.specs.declared.changes.Change.TheVariants.{Put, Object, Remove}

-- how many rowids the rows of a record take, at most: one for its own, and one for each of its objects
abbrev pub most_rows : ℕ
most_rows = 1 + most_objects

-- The way has the record of this id alone: the one that the records have, with another object in the place of the one of that name.
pub record IsOneObject (id object : List ℕ) (way : Way) (m : Records) : Type 0 where
  pub kept : Kept
  pub stood : m id ≡ Some kept
  pub there : IsSome (at_name object kept.bundle.objects)
  pub thing : Thing
  pub stands : way ≡ (id, Some (with_thing object thing kept)) ∷ []

-- For private clauses: what is changed.
pub data Altered : Type 0 where
  -- a record is left at an id, or none
  leaves : List ℕ → Option Kept → Altered
  -- of an id's record the object of that name is this one
  sets : List ℕ → List ℕ → Thing → Altered

-- what a change of the store does
abbrev pub altered : Change → Altered
altered (Put id s) = leaves (string_bytes id) (Some (stored_view s))
altered (Object id name object) = sets (string_bytes id) (string_bytes name) (object_view object)
altered (Remove id) = leaves (string_bytes id) None

-- what leaves an entry of the way so
abbrev pub leaves_entry : List ℕ × Option Kept → Altered
leaves_entry e = leaves e.0 e.1
