use Rattle.std.proofs.Common.{◌≡◌, take, map}
use Rattle.fv_datum.specs.View.{view}
use Rattle.fv_bundle.proofs.bundle.copied.Given as goal

abbrev pub invariant-loop-datum : goal.invariant-loop-datum
invariant-loop-datum l = map view l.copies.items ≡ map view (take l.datum-index l.data)
