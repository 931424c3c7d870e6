-- The references that are followed from an object ("Graph validation").
use Rattle.std.specs.Prelude.{ℕ, List, Option, Some, None, option_map, option_and_then, position, filter_map}
use Rattle.std.specs.List.{flat_map}
use Rattle.std.specs.Str.{bytes_eq}
use Rattle.fv_datum.specs.Data.{Data, reference}
use Rattle.fv_declare_schema.specs.Declarations.{Declarations}
use Rattle.fv_extract.specs.Parts.{Locus, parts_at}
use Rattle.fv_extract.specs.Places.{FieldPlace}
use Rattle.fv_declare_schema.specs.ValidPlaces.{ValidPlace}
use Rattle.fv_bundle.specs.Bundles.{Thing, Things}
use Rattle.fv_walk_traces.specs.Turns.{Way}
use Rattle.fv_local.specs.Conversions.{valid_places_at}

-- the number of the object of a name, which is its place in the order of the objects' names
abbrev pub object_number_in : Things → List ℕ → Option ℕ
object_number_in os name = position (λ o. bytes_eq name o.0) os

-- the name that a reference has; none where a datum is no reference, as null is none
abbrev pub name_of : Data → Option (List ℕ)
name_of (reference name) = Some name
name_of _ = None

-- the number of the object that a datum refers to, if it refers to one
abbrev pub target_of : Things → Data → Option ℕ
target_of os d = option_and_then (object_number_in os) (name_of d)

-- a place in the objects of a type
abbrev pub way_place : ValidPlace → FieldPlace
way_place p = record { field = p.field; steps = p.steps }

-- the reference that stands at a place with this locus, if one does
abbrev pub way_at : Things → FieldPlace → Locus × Data → Option Way
way_at os place part =
    option_map (λ target. record { place = place; locus = part.0; target = target }) (option_and_then (object_number_in os) (name_of part.1))

-- the references that an object holds at a valid place
abbrev pub ways_at : Things → Thing → ValidPlace → List Way
ways_at os object p = filter_map (way_at os (way_place p)) (parts_at object (way_place p))

-- the references that an object holds at the valid places of its type
abbrev pub ways_of : Declarations → Things → Thing → List Way
ways_of ds os object = flat_map (ways_at os object) (valid_places_at ds object)
