-- Failures that are told apart.
use Rattle.std.specs.Prelude.{◌≡◌, List}
use Rattle.fv_graph.specs.Graph.{IsIn}
use Rattle.fv_walk_traces.specs.Violations.{Violation}

-- no two failures have one path and one node
abbrev pub AreApart : List Violation → Type 0
AreApart fs = (v w : Violation) → IsIn fs v → IsIn fs w → v.path ≡ w.path → v.node ≡ w.node → v ≡ w
