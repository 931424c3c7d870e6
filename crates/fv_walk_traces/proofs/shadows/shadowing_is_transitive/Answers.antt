use Rattle.fv_walk_traces.proofs.Shadowing.{by_recursion, from_recursion, shadows_trans}
use Rattle.fv_walk_traces.proofs.shadows.shadowing_is_transitive.Goals as goal

pub returns : goal.returns
returns _ a b c h g = from_recursion a c (shadows_trans a b c (by_recursion a b h) (by_recursion b c g))
