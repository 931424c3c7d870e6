use Rattle.fv_walk_traces.proofs.OneField.{narrowed_tidy}
use Rattle.fv_walk_traces.proofs.field.narrowed_is_tidy.Goals as goal

pub returns : goal.returns
returns _ request field n tidy = narrowed_tidy request field n tidy
