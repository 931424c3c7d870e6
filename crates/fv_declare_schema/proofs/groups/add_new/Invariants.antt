use Rattle.std.proofs.Common.{◌≡◌, List, ℕ, ◌++◌, take}
use Rattle.fv_declare_schema.specs.Once.{once}
use Rattle.fv_declare_schema.specs.Tables.{indices}
use Rattle.fv_declare_schema.proofs.groups.add_new.Given as goal

abbrev pub invariant-loop-group : goal.invariant-loop-group
invariant-loop-group l = (xs : List ℕ) → indices l.fn.groups.items ≡ once xs → indices l.groups.items ≡ once (xs ++ indices (take l.group-index l.more))
