use Rattle.std.proofs.Common.{length}
use Rattle.fv_listing.proofs.turn.+is_same_locus.Given as goal

abbrev pub decreases-is_same_locus : goal.decreases-is_same_locus
decreases-is_same_locus l = length l.one.now
