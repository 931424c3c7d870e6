use Rattle.std.proofs.Common.{ℕ, List}
use Rattle.formd_words.specs.Rehearsals.{Asks}
use Rattle.formd_words.proofs.rehearsing.records.Given as goal

-- so far records were asked for
abbrev pub invariant-asked : goal.invariant-asked
invariant-asked g l = (ids : List (List ℕ)) × Asks g.P.Responder.step l.fn.now l.fn.engine ids l.engine
