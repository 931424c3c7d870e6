use Rattle.std.proofs.Common.{◌≡◌, ◌++◌, map}
use Rattle.fv_extract.specs.FoundView.{found_view}
use Rattle.fv_declare_schema.specs.NumberViews.{valid_place_view}
use Rattle.fv_bundle.specs.Views.{objects_view}
use Rattle.fv_local.specs.Graphs.{links_among, link_view}
use Rattle.fv_local.proofs.way.add_ways_among.Given as goal

abbrev pub invariant-loop-locus : goal.invariant-loop-locus
invariant-loop-locus l =
    map link_view l.ways.items ≡ map link_view l.initial.ways.items ++ links_among (objects_view l.objects) (valid_place_view l.place) (map found_view l.yielded)
