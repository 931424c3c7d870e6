use Rattle.std.proofs.Common.{◌≡◌, ◌++◌, map}
use Rattle.fv_bundle.specs.Views.{named_view, objects_view}
use Rattle.fv_local.specs.Graphs.{links_of, ways_view}
use Rattle.fv_local.proofs.graph.all_ways.Given as goal

abbrev pub invariant-loop-object : goal.invariant-loop-object
invariant-loop-object l =
    ways_view l.ways.items ++ map (λ o. links_of l.schema (objects_view l.objects) o.1) (map named_view l.object-iterator)
    ≡ map (λ o. links_of l.schema (objects_view l.objects) o.1) (objects_view l.objects)
