use Rattle.std.proofs.Common.{length, refl}
use Rattle.fv_walk_traces.specs.Traces.{IsVisit}
use Rattle.fv_walk_traces.specs.Finite.{all_visits}
use Rattle.fv_walk_traces.proofs.Told.{arrives, one_number}
use Rattle.fv_walk_traces.proofs.visits.visits_are_exact.Goals as goal

pub returns-clause-exact : goal.returns-clause-exact
returns-clause-exact _ request n tidy = arrives request n tidy

pub returns-clause-number : goal.returns-clause-number
returns-clause-number _ request n tidy many h =
    one_number (IsVisit request) many (length (all_visits request n)) h (all_visits request n, arrives request n tidy, refl)
