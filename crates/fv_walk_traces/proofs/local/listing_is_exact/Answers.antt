use Rattle.fv_walk_traces.proofs.Listing.{listing_exact}
use Rattle.fv_walk_traces.proofs.local.listing_is_exact.Goals as goal

pub returns : goal.returns
returns _ request n tidy v = listing_exact request n tidy v
