use Rattle.std.proofs.Common.{[], ◌∷◌, refl}
use Rattle.fv_walk_traces.specs.OneField.{narrowed}
use Rattle.fv_walk_traces.proofs.OneField.{field_violation, narrowed_tidy}
use Rattle.test_walks.proofs.Turns.{tells}
use Rattle.test_walks.specs.Rows.{row, unset_account}
use Rattle.test_walks.proofs.Tables.{row_tidy}
use Rattle.test_walks.proofs.trace_rows.other_fields_stop_nothing.Goals as goal

pub returns : goal.returns
returns _ v =
    let request = (row unset_account (0 ∷ [])) in
    let same = field_violation request 1 v in
    let told = tells (narrowed 1 request) 2 (narrowed_tidy request 1 2 (row_tidy unset_account (0 ∷ []) 2 refl refl)) v in
    (λ h. same.1 (told.0 h), λ h. told.1 (same.0 h))
