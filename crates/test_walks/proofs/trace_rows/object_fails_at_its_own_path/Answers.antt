use Rattle.test_walks.proofs.Turns.{tells}
use Rattle.test_walks.specs.Rows.{trip}
use Rattle.test_walks.proofs.Tables.{trip_tidy}
use Rattle.test_walks.proofs.trace_rows.object_fails_at_its_own_path.Goals as goal

pub returns-clause-element : goal.returns-clause-element
returns-clause-element _ v = tells (trip 0) 3 (trip_tidy 0) v

pub returns-clause-root : goal.returns-clause-root
returns-clause-root _ v = tells (trip 2) 3 (trip_tidy 2) v
