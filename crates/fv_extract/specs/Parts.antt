-- What stands at a place in an object.
use Rattle.std.specs.Prelude.{◌≢◌, ℕ, ◌+◌, ◌++◌, List, [], ◌∷◌, map as each, slice_get}
use Rattle.std.specs.Option.{option_map_or}
use Rattle.std.specs.List.{AllPairs, flat_map}
use Rattle.fv_datum.specs.Data.{Data, list, map, optional, Items, no_items, item, Entries, no_entries, entry}
use Rattle.fv_datum.specs.Written.{key_of}
use Rattle.fv_bundle.specs.Bundles.{Thing}
use Rattle.fv_extract.specs.Places.{PlaceStep, element, key, value, content, FieldPlace}

-- which part of a container: the index in a list, from 0, or the key in a map
pub data LocusPart : Type 0 where
  at_index : ℕ → LocusPart
  at_key : List ℕ → LocusPart

-- which part of a field's datum: the indices and keys on the way to it
abbrev pub Locus : Type 0
Locus = List LocusPart

-- the items of a list, each at its index, which goes up from that of the first
abbrev pub items_from : ℕ → Items → List (Locus × Data)
items_from i no_items = []
items_from i (item d ds) = (at_index i ∷ [], d) ∷ items_from (i + 1) ds

-- the keys of a map, each at its key
abbrev pub keys_in : Entries → List (Locus × Data)
keys_in no_entries = []
keys_in (entry k d es) = (at_key (key_of k) ∷ [], k) ∷ keys_in es

-- the values of a map, each at its key
abbrev pub values_in : Entries → List (Locus × Data)
values_in no_entries = []
values_in (entry k d es) = (at_key (key_of k) ∷ [], d) ∷ values_in es

-- what lies one step inside a datum, with what that adds to the locus. The content of an optional adds nothing, and is null where it is
-- empty; nothing lies inside null, or inside another datum than the step is for
abbrev pub inside : PlaceStep → Data → List (Locus × Data)
inside element (list ds) = items_from 0 ds
inside key (map es) = keys_in es
inside value (map es) = values_in es
inside content (optional d) = ([], d) ∷ []
inside _ _ = []

-- a part of a part, by its whole locus
abbrev pub parts_below : Locus → Locus × Data → Locus × Data
parts_below l p = (l ++ p.0, p.1)

-- the parts of a datum at these steps, in order, each with its whole locus: itself where there is no step, and else the parts at the other steps
-- of all that lies inside at the first
abbrev pub parts_of : List PlaceStep → Data → List (Locus × Data)
parts_of [] d = ([], d) ∷ []
parts_of (step ∷ steps) d = flat_map (λ p. each (λ q. (p.0 ++ q.0, q.1)) (parts_of steps p.1)) (inside step d)

-- what lies one step further inside a part
abbrev pub further : PlaceStep → Locus × Data → List (Locus × Data)
further step p = each (parts_below p.0) (inside step p.1)

-- the parts of an object at a place, in order: none where it has no such field
abbrev pub parts_at : Thing → FieldPlace → List (Locus × Data)
parts_at object place = option_map_or (λ f. parts_of place.steps f.1) (slice_get object.fields place.field) []

-- no two parts have one locus
abbrev pub AreApart : List (Locus × Data) → Type 0
AreApart ps = AllPairs (λ p q. p.0 ≢ q.0) ps
