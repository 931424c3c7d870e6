-- The ids that parts name.
use Rattle.std.specs.Prelude.{◌≡◌, ℕ, ◌+◌, IsTrue, List, [], ◌∷◌, Bool, true, false, Option, Some, None, is_some, if◌then◌else◌}
use Rattle.std.specs.List.{list_any}
use Rattle.std.specs.Option.{option_map_or}
use Rattle.std.specs.Str.{bytes_eq}
use Rattle.fv_engine_command.specs.Commands.{Part, put, set, remove}
use Rattle.fv_store.specs.Records.{Kept, Records}

-- a part puts or sets the id
abbrev pub touches : List ℕ → Part → Bool
touches id (put i form j) = bytes_eq id i
touches id (set i object field j) = bytes_eq id i
touches id (remove i) = false

-- the id was put or set by one of the parts, and this is its record
abbrev pub IsTouched : List Part → Records → List ℕ → Kept → Type 0
IsTouched parts m id kept = IsTrue (list_any (touches id) parts) × (m id ≡ Some kept)

-- a part leaves a record at its id: it puts or sets one
abbrev pub leaves_record : Part → Bool
leaves_record (remove i) = false
leaves_record _ = true

-- the id at which a part needs a record: that of a set or a remove
abbrev pub needed_id : Part → Option (List ℕ)
needed_id (put i form j) = None
needed_id (set i object field j) = Some i
needed_id (remove i) = Some i

-- a part needs a record
abbrev pub needs_record : Part → Bool
needs_record p = is_some (needed_id p)

-- it needs the one of this id
abbrev pub needs_at : List ℕ → Part → Bool
needs_at id p = option_map_or (bytes_eq id) (needed_id p) false

-- how many need one
abbrev pub count_needed : List Part → ℕ
count_needed [] = 0
count_needed (p ∷ ps) = (if needs_record p then 1 else 0) + count_needed ps

-- how many leave one
abbrev pub count_left : List Part → ℕ
count_left [] = 0
count_left (p ∷ ps) = (if leaves_record p then 1 else 0) + count_left ps
