use Rattle.std.proofs.Common.{length}
use Rattle.fv_listing.proofs.turn.+shadows.Given as goal

abbrev pub decreases-shadows : goal.decreases-shadows
decreases-shadows l = length l.one.now
