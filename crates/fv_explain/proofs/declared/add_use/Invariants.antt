use Rattle.std.proofs.Common.{◌≡◌, ◌≤◌, ◌+◌, ◌-◌, ◌∷◌, [], ℕ, List, length}
use Rattle.fv_declare_schema.specs.Declarations.{count_nodes}
use Rattle.fv_declare_schema.specs.PlacedView.{placed_view}
use Rattle.fv_explain.specs.Adding.{Adds}
use Rattle.fv_explain.specs.Explained.{AreLinesFrom, TellsPart}
use Rattle.fv_explain.proofs.declared.add_use.Given as goal

-- so far there is a line for each constraint
abbrev pub invariant-loop-number : goal.invariant-loop-number
invariant-loop-number l =
    (parts : List (List ℕ)) × Adds l.initial.lines parts l.lines × (length parts + 1 ≡ l.number)
    × (length parts ≤ count_nodes ((placed_view l.placed).tree ∷ []) - 1)
    × AreLinesFrom 1 (TellsPart l.initial.lines.json (placed_view l.placed)) parts
