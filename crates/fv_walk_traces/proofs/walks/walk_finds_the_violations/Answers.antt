use Rattle.fv_walk_traces.proofs.Walked.{finds_all}
use Rattle.fv_walk_traces.proofs.walks.walk_finds_the_violations.Goals as goal

pub returns : goal.returns
returns _ request n tidy v = finds_all request n tidy v
