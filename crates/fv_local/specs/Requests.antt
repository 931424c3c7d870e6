-- The request that judges a bundle: its objects by their numbers, and what stands in them.
use Rattle.std.specs.Prelude.{ℕ, ℤ, List, [], ◌∷◌, Bool, false, nat_eq, slice_get, unwrap_or}
use Rattle.std.specs.Option.{option_map_or}
use Rattle.std.specs.Str.{bytes_eq}
use Rattle.std.specs.Cmp.Lexicographic.{pointwise}
use Rattle.std.specs.Map.{lookup}
use Rattle.fv_datum.specs.Data.{Data, null}
use Rattle.fv_declare_schema.specs.Declarations.{Declarations}
use Rattle.fv_extract.specs.Parts.{LocusPart, at_index, at_key, Locus, parts_at}
use Rattle.fv_extract.specs.Places.{FieldPlace}
use Rattle.fv_declare_schema.specs.Groups.{is_sequence, ranks}
use Rattle.fv_declare_schema.specs.Once.{once}
use Rattle.fv_local.specs.Own.{own_in}
use Rattle.fv_bundle.specs.Bundles.{Thing, Bundled}
use Rattle.fv_path.specs.Nodes.{PathNode, field}
use Rattle.fv_local.specs.Below.{below}
use Rattle.fv_registry.specs.Meanings.{Meanings}
use Rattle.fv_local.specs.Paths.{field_name, nodes_of}
use Rattle.fv_local.specs.Conversions.{valid_places_at, converted_among}
use Rattle.fv_local.specs.Ways.{object_number_in, ways_at}
use Rattle.fv_walk_traces.specs.Requests.{Own, Plain, GraphRequest}
use Rattle.std.specs.List.{flat_map}

-- the object of a number: its place in the order of the objects' names. One without fields, of no type, where there is none
abbrev pub object_at : Bundled → ℕ → Thing
object_at b i = option_map_or (λ o. o.1) (slice_get b.objects i) (record { type_name = []; fields = [] })

-- its name
abbrev pub object_name : Bundled → ℕ → List ℕ
object_name b i = option_map_or (λ o. o.0) (slice_get b.objects i) []

-- the number of the object of a name
abbrev pub object_number : Bundled → List ℕ → ℕ
object_number b name = unwrap_or (object_number_in b.objects name) 0

-- the same index, or the same key
abbrev pub is_same_part : LocusPart → LocusPart → Bool
is_same_part (at_index i) (at_index j) = nat_eq i j
is_same_part (at_key k) (at_key l) = bytes_eq k l
is_same_part _ _ = false

-- the datum at a place of an object: of the part there whose locus has the same parts one after the other; null where none has
abbrev pub datum_of_part : Thing → FieldPlace → Locus → Data
datum_of_part object place locus = unwrap_or (lookup (λ l. pointwise is_same_part l locus) (parts_at object place)) null

-- the nodes from an object to a part of it
abbrev pub nodes_at : Thing → FieldPlace → Locus → List PathNode
nodes_at object place locus = field (field_name object place.field) ∷ nodes_of place.steps locus

-- the groups that are asked for: `Default` alone where none is
abbrev pub asked_or_default : List ℕ → List ℕ
asked_or_default [] = 0 ∷ []
asked_or_default (g ∷ gs) = g ∷ gs

-- those each once
abbrev pub asked_groups : List ℕ → List ℕ
asked_groups asked = once (asked_or_default asked)

-- the request for these groups that goes through a bundle by declarations, where this fails of an object's own constraints in a group. The ways of
-- an object are the references at the valid places of its type; the datum is that of the part whose locus has the same parts, null where none has
abbrev pub request_for : (ℕ → ℕ → Own) → Declarations → Bundled → List ℕ → GraphRequest
request_for own ds b groups = record {
  asked = groups;
  root = unwrap_or (object_number_in b.objects b.root) 0;
  is_sequence = is_sequence ds.groups;
  ranks = ranks ds.groups;
  ways = λ object. flat_map (ways_at b.objects (object_at b object)) (valid_places_at ds (object_at b object));
  converted = λ object place group. converted_among (valid_places_at ds (object_at b object)) place group;
  below = below ds.groups;
  own = own;
  nodes = λ object place locus. field (field_name (object_at b object) place.field) ∷ nodes_of place.steps locus;
  datum = λ object place locus. unwrap_or (lookup (λ l. pointwise is_same_part l locus) (parts_at (object_at b object) place)) null;
  name = λ i. option_map_or (λ o. o.0) (slice_get b.objects i) [];
}

-- the request that judges a bundle by declarations, for groups that are asked for, at a moment
abbrev pub request_of : Meanings → Declarations → ℤ → Bundled → List ℕ → GraphRequest
request_of m ds now b asked = request_for (λ object group. own_in m ds now (object_at b object) group) ds b (asked_groups asked)

-- the same in which nothing fails: its visits are those of the request, and nothing is judged to tell them
abbrev pub unjudged : Declarations → Bundled → List ℕ → GraphRequest
unjudged ds b asked = request_for (λ object group. Plain []) ds b (asked_groups asked)

-- ---- both for groups that stand there once each, as they are walked through

-- the request that judges
abbrev pub judging : Meanings → Declarations → ℤ → Bundled → List ℕ → GraphRequest
judging m ds now b groups = request_for (λ object group. own_in m ds now (object_at b object) group) ds b groups

-- the one in which nothing fails
abbrev pub visiting : Declarations → Bundled → List ℕ → GraphRequest
visiting ds b groups = request_for (λ object group. Plain []) ds b groups
