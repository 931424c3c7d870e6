use Rattle.fv_engine_pending.proofs.parts.read_part.Goals as goal

pub returns-in-Put-clause-read : goal.returns-in-Put-clause-read
returns-in-Put-clause-read c = rw c.in-Put.is c.read_put.ensures.read
