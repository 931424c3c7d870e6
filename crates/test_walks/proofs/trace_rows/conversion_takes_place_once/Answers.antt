use Rattle.std.proofs.Common.{[], ◌∷◌, refl}
use Rattle.test_walks.proofs.Turns.{tells}
use Rattle.test_walks.specs.Rows.{kid, row}
use Rattle.test_walks.proofs.Tables.{row_tidy}
use Rattle.test_walks.proofs.trace_rows.conversion_takes_place_once.Goals as goal

pub returns-clause-full : goal.returns-clause-full
returns-clause-full _ v = tells (row kid (1 ∷ [])) 2 (row_tidy kid (1 ∷ []) 2 refl refl) v

pub returns-clause-default : goal.returns-clause-default
returns-clause-default _ v = tells (row kid (0 ∷ [])) 2 (row_tidy kid (0 ∷ []) 2 refl refl) v
