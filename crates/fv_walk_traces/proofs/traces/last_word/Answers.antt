use Rattle.fv_walk_traces.proofs.Told.{last_word}
use Rattle.fv_walk_traces.proofs.traces.last_word.Goals as goal

pub returns : goal.returns
returns _ request n tidy first rest h = last_word request n tidy first rest h
