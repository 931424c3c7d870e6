use Rattle.std.proofs.Common.{[], ◌∷◌, refl}
use Rattle.test_walks.proofs.Turns.{tells}
use Rattle.test_walks.specs.Rows.{half_account, row, unset_account}
use Rattle.test_walks.proofs.Tables.{row_tidy}
use Rattle.test_walks.proofs.trace_rows.sequence_of_a_type_is_its_own.Goals as goal

pub returns-clause-unset : goal.returns-clause-unset
returns-clause-unset _ v = tells (row unset_account (0 ∷ [])) 2 (row_tidy unset_account (0 ∷ []) 2 refl refl) v

pub returns-clause-half : goal.returns-clause-half
returns-clause-half _ v = tells (row half_account (0 ∷ [])) 2 (row_tidy half_account (0 ∷ []) 2 refl refl) v
