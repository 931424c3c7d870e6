-- The failures that contracts see.
use Rattle.std.specs.Prelude.{map}
use Rattle.fv_datum.specs.View.{view}
use Rattle.fv_extract.specs.Parts.{parts_at}
use Rattle.fv_extract.specs.Views.{place_view, part_view}
use Rattle.fv_graph.specs.Graph.{IsIn}
use Rattle.fv_bundle.specs.Bundles.{Thing}
use Rattle.fv_walk_traces.specs.Turns as turn
use Rattle.fv_local.specs.declared.failure.LocalFailure.{LocalFailure}
use Rattle.fv_local.specs.declared.failure.Spot.{Spot}
use Rattle.fv_local.specs.declared.failure.Spot.TheVariants as code

-- where in an object something fails
abbrev pub spot_view : Spot → turn.Spot
spot_view code.Object = turn.of_object
spot_view (code.Part place locus datum) = turn.at (place_view place) (map part_view locus.items)

-- what fails in an object
abbrev pub failure_view : LocalFailure → turn.LocalFailure
failure_view f = record { spot = spot_view f.spot; node = f.number }

-- the datum of a part is the one that stands there in the object
abbrev pub IsFoundIn : Thing → Spot → Type 0
IsFoundIn object code.Object = Unit {0}
IsFoundIn object (code.Part place locus datum) = IsIn (parts_at object (place_view place)) (map part_view locus.items, view datum.now)
