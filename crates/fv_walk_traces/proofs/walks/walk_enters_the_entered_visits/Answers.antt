use Rattle.fv_walk_traces.proofs.Walked.{enters_many}
use Rattle.fv_walk_traces.proofs.walks.walk_enters_the_entered_visits.Goals as goal

pub returns : goal.returns
returns _ request n tidy = enters_many request n tidy
