use Rattle.std.proofs.Common.{[], ◌∷◌, refl}
use Rattle.fv_walk_traces.specs.Finite.{all_visits, entered_visits}
use Rattle.test_walks.proofs.Turns.{arrives, enters, tells}
use Rattle.test_walks.specs.Rows.{family, row}
use Rattle.test_walks.proofs.Tables.{row_tidy}
use Rattle.test_walks.proofs.trace_rows.sequence_asked_for_stops_as_a_whole.Goals as goal

pub returns-clause-violations : goal.returns-clause-violations
returns-clause-violations _ v = tells (row family (3 ∷ [])) 3 (row_tidy family (3 ∷ []) 3 refl refl) v

pub returns-clause-visits : goal.returns-clause-visits
returns-clause-visits _ = (all_visits (row family (3 ∷ [])) 3, arrives (row family (3 ∷ [])) 3 (row_tidy family (3 ∷ []) 3 refl refl), refl)

pub returns-clause-entered : goal.returns-clause-entered
returns-clause-entered _ = (entered_visits (row family (3 ∷ [])) 3, enters (row family (3 ∷ [])) 3 (row_tidy family (3 ∷ []) 3 refl refl), refl)
