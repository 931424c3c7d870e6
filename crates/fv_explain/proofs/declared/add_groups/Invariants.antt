use Rattle.std.proofs.Common.{◌≡◌, ◌≤◌, ◌+◌, ◌-◌, ℕ, List, length}
use Rattle.fv_explain.specs.Adding.{Adds}
use Rattle.fv_explain.specs.Explained.{AreLinesFrom, TellsGroup}
use Rattle.fv_explain.proofs.declared.add_groups.Given as goal

-- so far there is a line for each group
abbrev pub invariant-loop-index : goal.invariant-loop-index
invariant-loop-index l =
    (more : List (List ℕ)) × Adds l.initial.lines more l.lines × (length more + 1 ≡ l.index) × (length more ≤ length l.groups - 1)
    × AreLinesFrom 1 (TellsGroup l.initial.lines.json l.groups) more
