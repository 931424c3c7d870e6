use Rattle.fv_walk_traces.proofs.Ends.{to_local_in, from_local_in}
use Rattle.fv_walk_traces.proofs.local.local_failures_are_exact.Goals as goal

pub returns : goal.returns
returns _ hs own f = (to_local_in hs own f, from_local_in hs own f)
