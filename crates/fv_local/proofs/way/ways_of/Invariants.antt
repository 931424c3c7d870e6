use Rattle.std.proofs.Common.{◌≡◌, map, take}
use Rattle.std.specs.List.{flat_map}
use Rattle.fv_declare_schema.specs.NumberViews.{valid_place_view}
use Rattle.fv_bundle.specs.Views.{object_view, objects_view}
use Rattle.fv_local.specs.Graphs.{links_at, link_view}
use Rattle.fv_local.proofs.way.ways_of.Given as goal

abbrev pub invariant-loop-place : goal.invariant-loop-place
invariant-loop-place l =
    map link_view l.ways.items ≡ flat_map (links_at (objects_view l.objects) (object_view l.object)) (map valid_place_view (take l.place-index l.places))
