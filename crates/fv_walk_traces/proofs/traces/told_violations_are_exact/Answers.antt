use Rattle.fv_walk_traces.proofs.Told.{tells}
use Rattle.fv_walk_traces.proofs.traces.told_violations_are_exact.Goals as goal

pub returns : goal.returns
returns _ request n tidy v = tells request n tidy v
