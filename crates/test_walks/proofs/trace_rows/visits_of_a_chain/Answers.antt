use Rattle.std.proofs.Common.{refl}
use Rattle.fv_walk_traces.specs.Finite.{all_visits}
use Rattle.test_walks.proofs.Turns.{arrives}
use Rattle.test_walks.specs.Rows.{chain}
use Rattle.test_walks.proofs.Tables.{chain_tidy}
use Rattle.test_walks.proofs.trace_rows.visits_of_a_chain.Goals as goal

pub returns-clause-one : goal.returns-clause-one
returns-clause-one _ = (all_visits (chain 1) 1, arrives (chain 1) 1 (chain_tidy 1), refl)

pub returns-clause-two : goal.returns-clause-two
returns-clause-two _ = (all_visits (chain 2) 2, arrives (chain 2) 2 (chain_tidy 2), refl)

pub returns-clause-twelve : goal.returns-clause-twelve
returns-clause-twelve _ = (all_visits (chain 12) 12, arrives (chain 12) 12 (chain_tidy 12), refl)

pub returns-clause-thirteen : goal.returns-clause-thirteen
returns-clause-thirteen _ = (all_visits (chain 13) 13, arrives (chain 13) 13 (chain_tidy 13), refl)
