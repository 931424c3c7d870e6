use Rattle.std.proofs.Common.{length, refl}
use Rattle.fv_walk_traces.specs.Traces.{IsEntered}
use Rattle.fv_walk_traces.specs.Finite.{entered_visits}
use Rattle.fv_walk_traces.proofs.Told.{enters, one_number}
use Rattle.fv_walk_traces.proofs.visits.entered_visits_are_exact.Goals as goal

pub returns-clause-exact : goal.returns-clause-exact
returns-clause-exact _ request n tidy = enters request n tidy

pub returns-clause-number : goal.returns-clause-number
returns-clause-number _ request n tidy many h =
    one_number (IsEntered request) many (length (entered_visits request n)) h (entered_visits request n, enters request n tidy, refl)
