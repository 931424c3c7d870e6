-- The failures that contracts see.
use Rattle.fv_datum.specs.View.{view}
use Rattle.fv_walk_traces.specs.Violations.{Violation}
use Rattle.fv_walk.specs.declared.failure.Failure.{Failure}

-- a failure
abbrev pub failure_view : Failure → Violation
failure_view f = record { path = f.path; node = f.number; value = view f.value }
