use Rattle.std.proofs.Common.{take, drop, Option}
use Rattle.std.specs.List.{AllZip}
use Rattle.fv_first.specs.First.{IsFirstFrom}
use Rattle.fv_flatten.proofs.Unbuilt.{IsUnbuiltTree}
use Rattle.fv_flatten.specs.Placed.{IsReadFrom, IsUnbuilt}
use Rattle.fv_constraint.specs.declared.at.ConstraintAt.{ConstraintAt}
use Rattle.fv_flatten.proofs.placed.read_trees.Given as goal

abbrev pub invariant-loop-number : goal.invariant-loop-number
invariant-loop-number l = record {
  made : AllZip IsReadFrom (take l.number l.trees) l.occurrences.items;
  built : (found : Option ConstraintAt) → IsFirstFrom IsUnbuiltTree l.number (drop l.number l.trees) found → IsUnbuilt l.trees found;
}
