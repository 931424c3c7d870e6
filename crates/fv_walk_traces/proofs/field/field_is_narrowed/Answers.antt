use Rattle.fv_walk_traces.proofs.OneField.{to_narrowed, from_narrowed, to_narrowed_visit, from_narrowed_visit, field_entered, field_violation}
use Rattle.fv_walk_traces.proofs.field.field_is_narrowed.Goals as goal

pub returns-clause-traces : goal.returns-clause-traces
returns-clause-traces _ request field turns = (to_narrowed request field turns, from_narrowed request field turns)

pub returns-clause-visits : goal.returns-clause-visits
returns-clause-visits _ request field turns = (to_narrowed_visit request field turns, from_narrowed_visit request field turns)

pub returns-clause-entered : goal.returns-clause-entered
returns-clause-entered _ request field turns = field_entered request field turns

pub returns-clause-violations : goal.returns-clause-violations
returns-clause-violations _ request field v = field_violation request field v
