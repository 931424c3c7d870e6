use Rattle.std.proofs.Common.{◌≡◌, drop, option_map}
use Rattle.fv_first.specs.First.{first_from, first_where}
use Rattle.fv_flatten.specs.Placed.{planned_in, refused_in}
use Rattle.fv_flatten.specs.Read.{refuses_its_given}
use Rattle.fv_constraint.specs.declared.at.ConstraintAt.TheVariants as at
use Rattle.fv_flatten.proofs.placed.refused_in.Given as goal

abbrev pub invariant-loop-number : goal.invariant-loop-number
invariant-loop-number l = first_from (λ n p. option_map (at.Node n) (first_where refuses_its_given (planned_in p))) l.number (drop l.number l.trees) ≡ refused_in l.trees
