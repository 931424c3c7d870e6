-- For proofs: what stands at a place of an object, and what is reported of it.
use Rattle.std.specs.Prelude.{ℤ, List, map}
use Rattle.fv_constraint_tree.specs.Reports.{violated}
use Rattle.fv_constraint_tree.specs.Says.{of_datum}
use Rattle.fv_datum.specs.Data.{Data}
use Rattle.fv_declare_schema.specs.Declarations.{Placed}
use Rattle.fv_extract.specs.Parts.{Locus}
use Rattle.fv_extract.specs.Places as object
use Rattle.fv_local.specs.Failures.{Standing}
use Rattle.fv_registry.specs.Meanings.{Meanings}
use Rattle.fv_walk_traces.specs.Turns as turn
use Rattle.fv_walk_traces.specs.Turns.{LocalFailure}

-- a part of an object at a place
abbrev pub part_at : object.FieldPlace → Locus × Data → Standing
part_at place p = (turn.at place p.0, of_datum p.1)

-- the nodes of a use's tree that are reported of what stands there
abbrev pub failures_at : Meanings → ℤ → Standing → Placed → List LocalFailure
failures_at m now s u = map (λ n. record { spot = s.0; node = n.0 }) (violated m now s.1 u.number u.tree)
