use Rattle.std.proofs.Common.{[], ◌∷◌, refl}
use Rattle.fv_walk_traces.specs.Finite.{all_visits}
use Rattle.test_walks.proofs.Turns.{arrives, tells}
use Rattle.test_walks.specs.Rows.{row, two_nodes}
use Rattle.test_walks.proofs.Tables.{row_tidy}
use Rattle.test_walks.proofs.trace_rows.object_on_the_way_is_left_out.Goals as goal

pub returns-clause-violations : goal.returns-clause-violations
returns-clause-violations _ v = tells (row two_nodes (0 ∷ [])) 2 (row_tidy two_nodes (0 ∷ []) 2 refl refl) v

pub returns-clause-visits : goal.returns-clause-visits
returns-clause-visits _ = (all_visits (row two_nodes (0 ∷ [])) 2, arrives (row two_nodes (0 ∷ [])) 2 (row_tidy two_nodes (0 ∷ []) 2 refl refl), refl)
