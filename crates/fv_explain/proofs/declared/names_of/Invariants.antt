use Rattle.std.proofs.Common.{◌≡◌, take}
use Rattle.fv_declare_schema.specs.Tables.{indices}
use Rattle.fv_explain.specs.Explained.{group_names}
use Rattle.fv_explain.specs.Lines.{names_in}
use Rattle.fv_explain.proofs.declared.names_of.Given as goal

-- the names so far
abbrev pub invariant-loop-number : goal.invariant-loop-number
invariant-loop-number l = names_in l.names.items ≡ group_names l.groups (indices (take l.number-index l.numbers))
