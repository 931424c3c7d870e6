use Rattle.std.proofs.Common.{map, take}
use Rattle.fv_listing.specs.Listed.{IsHidden}
use Rattle.fv_listing.specs.Turns.{turns_view}
use Rattle.fv_listing.specs.Visits.{visit_view}
use Rattle.fv_listing.proofs.listing.is_hidden.Given as goal

abbrev pub invariant-loop-other : goal.invariant-loop-other
invariant-loop-other l = IsHidden (map turns_view (take l.other-index l.failing)) (visit_view l.visit).turns → ⊥
