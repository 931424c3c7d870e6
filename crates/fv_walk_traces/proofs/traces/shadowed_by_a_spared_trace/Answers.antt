use Rattle.fv_walk_traces.proofs.Told.{shadowed}
use Rattle.fv_walk_traces.proofs.traces.shadowed_by_a_spared_trace.Goals as goal

pub returns : goal.returns
returns _ request n tidy turns other t h = shadowed request n tidy turns other t h
