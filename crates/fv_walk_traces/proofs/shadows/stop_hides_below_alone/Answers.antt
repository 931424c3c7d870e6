use Rattle.std.proofs.Common.{◌++◌, inl, inr}
use Rattle.fv_walk_traces.proofs.Shadowing.{by_recursion, from_recursion}
use Rattle.fv_walk_traces.proofs.Prefix.{hides_below}
use Rattle.fv_walk_traces.proofs.shadows.stop_hides_below_alone.Goals as goal

pub returns : goal.returns
returns _ first rest other h =
    elim (hides_below first rest other (by_recursion (first ++ rest) other h)) [
      | inl k ↦ inl (from_recursion first other k)
      | inr k ↦ inr (k.0, k.1, from_recursion rest k.0 k.2)
    ]
