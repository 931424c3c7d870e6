-- An object that turns lead to, and the violation of a failure that they lead to.
use Rattle.std.specs.Prelude.{ℕ, List}
use Rattle.fv_datum.specs.Data.{null}
use Rattle.fv_path.specs.Nodes.{PathNode}
use Rattle.fv_walk_traces.specs.Violations.{Violation, Reached}

-- an object at the end of a path, before anything has failed
abbrev pub at_object : List PathNode → ℕ → Reached
at_object path object = record { path = path; object = object; node = 0; value = null }

-- the violation that a failure reached is
abbrev pub violation : Reached → Violation
violation x = record { path = x.path; node = x.node; value = x.value }
