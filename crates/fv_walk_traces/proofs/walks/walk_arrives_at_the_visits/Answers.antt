use Rattle.fv_walk_traces.proofs.Walked.{arrives_many}
use Rattle.fv_walk_traces.proofs.walks.walk_arrives_at_the_visits.Goals as goal

pub returns : goal.returns
returns _ request n tidy = arrives_many request n tidy
