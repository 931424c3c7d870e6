use Rattle.std.proofs.Common.{[], ◌∷◌, refl}
use Rattle.fv_walk_traces.specs.Finite.{all_visits, entered_visits}
use Rattle.test_walks.proofs.Turns.{arrives, enters, tells}
use Rattle.test_walks.specs.Rows.{row, unset_account}
use Rattle.test_walks.proofs.Tables.{row_tidy}
use Rattle.test_walks.proofs.trace_rows.group_asked_for_beside_default.Goals as goal

pub returns-clause-violations : goal.returns-clause-violations
returns-clause-violations _ v = tells (row unset_account (0 ∷ 1 ∷ [])) 2 (row_tidy unset_account (0 ∷ 1 ∷ []) 2 refl refl) v

pub returns-clause-visits : goal.returns-clause-visits
returns-clause-visits _ = (all_visits (row unset_account (0 ∷ 1 ∷ [])) 2, arrives (row unset_account (0 ∷ 1 ∷ [])) 2 (row_tidy unset_account (0 ∷ 1 ∷ []) 2 refl refl), refl)

pub returns-clause-entered : goal.returns-clause-entered
returns-clause-entered _ = (entered_visits (row unset_account (0 ∷ 1 ∷ [])) 2, enters (row unset_account (0 ∷ 1 ∷ [])) 2 (row_tidy unset_account (0 ∷ 1 ∷ []) 2 refl refl), refl)
