-- Records on the way: what stands at the ids that a command names, and nothing at those that have no record, before anything is written.
use Rattle.std.specs.Prelude.{ℕ, List, [], ◌∷◌, ◌++◌, map, IsSome, Option, Some, None, option_map, option_and_then, unwrap_or}
use Rattle.std.specs.Borrow.{Bor}
use Rattle.std.specs.BTreeMap.{insert_entry}
use Rattle.std.specs.Cmp.Lexicographic.{slice_cmp}
use Rattle.std.specs.Map.{remove_entry}
use Rattle.std.specs.Ordering.{nat_cmp}
use Rattle.std.specs.Str.{bytes_eq}
use Rattle.fv_datum.specs.Lookup.{at_name}
use Rattle.fv_bundle.specs.Bundles.{Thing}
use Rattle.fv_engine_pending.specs.declared.pending.Pending.{Pending}
use Rattle.fv_store.specs.Records.{Kept, Records}
use Rattle.fv_store.specs.Stored.{stored_view}
use Rattle.fv_store.specs.declared.stored.Stored.{Stored}

-- ids, each with the record that stands there, if there is one
abbrev pub Way : Type 0
Way = List (List ℕ × Option Kept)

-- an entry as the code keeps it
abbrev pub way_entry : Bor (List ℕ) × Option Stored → List ℕ × Option Kept
way_entry e = (e.0.now, option_map stored_view e.1)

-- the records on the way as the code keeps them
abbrev pub pending_view : Pending → Way
pending_view p = map way_entry p.records.entries

-- the records with what stands on the way in place of theirs
abbrev pub overlay : Way → Records → Records
overlay way m id = unwrap_or (at_name id way) (m id)

-- the record that stands at an id on the way
abbrev pub standing_at : List ℕ → Way → Option Kept
standing_at id way = unwrap_or (at_name id way) None

-- something stands at an id on the way, a record or none
abbrev pub IsOn : List ℕ → Way → Type 0
IsOn id way = IsSome (at_name id way)

-- the way with a record at an id, or with none there
abbrev pub left_at : List ℕ → Option Kept → Way → Way
left_at id kept way = insert_entry (slice_cmp nat_cmp) way id kept

-- the way without the id
abbrev pub without_id : List ℕ → Way → Way
without_id id way = remove_entry (bytes_eq id) way

-- the record of an entry, with its id, where there is one
abbrev pub standing_entry : List ℕ → Option Kept → List (List ℕ × Kept)
standing_entry id None = []
standing_entry id (Some k) = (id, k) ∷ []

-- the records that stand, each with its id, in order
abbrev pub standing : Way → List (List ℕ × Kept)
standing [] = []
standing (e ∷ es) = standing_entry e.0 e.1 ++ standing es

-- the record of the one entry, with its id; none where there are more entries, or no record stands there
abbrev pub only_standing : Way → Option (List ℕ × Kept)
only_standing (e ∷ []) = option_map (λ k. (e.0, k)) e.1
only_standing _ = None

-- its object of that name, with the id
abbrev pub lone_object : List ℕ → Way → Option (List ℕ × Thing)
lone_object object way = option_and_then (λ e. option_map (λ t. (e.0, t)) (at_name object e.1.bundle.objects)) (only_standing way)
