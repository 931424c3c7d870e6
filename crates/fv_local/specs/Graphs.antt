-- The graph of a bundle's objects that contracts see.
use Rattle.std.specs.Prelude.{◌≡◌, ◌<◌, List, map, length, filter_map, Vec}
use Rattle.std.specs.List.{flat_map}
use Rattle.std.specs.declared.alloc.Global.{Global}
use Rattle.fv_datum.specs.Data.{Data}
use Rattle.fv_declare_schema.specs.Declarations.{Declarations}
use Rattle.fv_extract.specs.Parts.{Locus, parts_at}
use Rattle.fv_extract.specs.Views.{part_view}
use Rattle.fv_declare_schema.specs.ValidPlaces.{ValidPlace}
use Rattle.fv_declare_schema.specs.NumberViews.{valid_place_view}
use Rattle.fv_bundle.specs.Bundles.{Thing, Things}
use Rattle.fv_bundle.specs.Views.{bundle_view}
use Rattle.fv_walk_traces.specs.Turns as turn
use Rattle.fv_local.specs.declared.graph.ObjectGraph.{ObjectGraph}
use Rattle.fv_local.specs.declared.way.Way.{Way}
use Rattle.fv_local.specs.Conversions.{valid_places_at}
use Rattle.fv_local.specs.Requests.{object_number}
use Rattle.fv_local.specs.Ways.{way_place, way_at}

-- a reference, without where it lies in memory
abbrev pub way_view : Way → turn.Way
way_view w = record { place = way_place (valid_place_view w.place.now); locus = map part_view w.locus.items; target = w.target }

-- a reference with the valid place at which it stands
abbrev pub Link : Type 0
Link = ValidPlace × turn.Way

abbrev pub link_view : Way → Link
link_view w = (valid_place_view w.place.now, way_view w)

-- those among some parts at a valid place
abbrev pub links_among : Things → ValidPlace → List (Locus × Data) → List Link
links_among os p parts = map (λ w. (p, w)) (filter_map (way_at os (way_place p)) parts)

-- those that an object holds at a valid place
abbrev pub links_at : Things → Thing → ValidPlace → List Link
links_at os object p = links_among os p (parts_at object (way_place p))

-- those that it holds at the valid places of its type
abbrev pub links_of : Declarations → Things → Thing → List Link
links_of ds os object = flat_map (links_at os object) (valid_places_at ds object)

-- the references of each object
abbrev pub ways_view : List (Vec Way Global) → List (List Link)
ways_view = map (λ v. map link_view v.items)

-- for each object of the bundle, by its number, the references that it holds at the valid places of its type; and the root's number
pub record IsGraphOf (ds : Declarations) (g : ObjectGraph) : Type 0 where
  pub ways : ways_view g.ways.items ≡ map (λ o. links_of ds (bundle_view g.bundle.now).objects o.1) (bundle_view g.bundle.now).objects
  pub root : g.root ≡ object_number (bundle_view g.bundle.now) (bundle_view g.bundle.now).root
  pub rooted : g.root < length (bundle_view g.bundle.now).objects
