use Rattle.fv_walk_traces.proofs.Parts.{parts_walk, walk_parts}
use Rattle.fv_walk_traces.proofs.traces.parts_are_the_walk.Goals as goal

pub returns : goal.returns
returns _ request turns = (parts_walk request turns, walk_parts request turns)
