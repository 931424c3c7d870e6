use Rattle.std.proofs.Common.{ℕ, List, drop, map}
use Rattle.std.specs.List.{flat_map}
use Rattle.fv_declare_schema.specs.PlacedView.{placed_view}
use Rattle.fv_explain.specs.Adding.{Adds}
use Rattle.fv_explain.specs.Explained.{AreUseLines}
use Rattle.fv_explain.proofs.Adding.{Completes}
use Rattle.fv_explain.proofs.declared.add_constraints.Given as goal

-- the lines so far, with those of the uses that are left, are those of all
abbrev pub invariant-loop-index : goal.invariant-loop-index
invariant-loop-index l =
    (each : List (List (List ℕ))) × Adds l.initial.lines (flat_map (λ ls. ls) each) l.lines
    × Completes (AreUseLines l.initial.lines.json l.schema.groups) l.schema.occurrences (drop l.index (map placed_view l.uses)) each
