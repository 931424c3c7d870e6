use Rattle.std.proofs.Common.{◌≡◌, ℕ, List, false, All}
use Rattle.fv_explain.specs.Adding.{Adds}
use Rattle.fv_explain.specs.Explained.{IsWarning}
use Rattle.fv_explain.proofs.explaining.add_warnings.Given as goal

-- so far there are warnings
abbrev pub invariant-loop-warning : goal.invariant-loop-warning
invariant-loop-warning l =
    (more : List (List ℕ)) × Adds l.initial.lines more l.lines × (l.initial.lines.json ≡ false → All IsWarning more)
