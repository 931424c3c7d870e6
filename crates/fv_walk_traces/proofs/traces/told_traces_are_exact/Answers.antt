use Rattle.fv_walk_traces.proofs.Told.{stops, told_differ}
use Rattle.fv_walk_traces.proofs.traces.told_traces_are_exact.Goals as goal

pub returns : goal.returns
returns _ request n tidy = (told_differ request n tidy, stops request n tidy)
