use Rattle.std.proofs.Common.{◌≡◌, ℕ, List}
use Rattle.fv_declare_schema.specs.Groups.{Inherits}
use Rattle.fv_explain.specs.Explained.{AreThoseBelow, group_names}
use Rattle.fv_explain.specs.Lines.{names_in}
use Rattle.fv_explain.proofs.declared.inherited.Given as goal

-- the names of those so far
abbrev pub invariant-loop-index : goal.invariant-loop-index
invariant-loop-index l =
    (found : List ℕ) × AreThoseBelow l.index (Inherits l.groups l.group.index) found
    × (names_in l.names.items ≡ group_names l.groups found)
