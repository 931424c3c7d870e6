use Rattle.std.proofs.Common.{◌≡◌, ◌+◌, drop, map}
use Rattle.fv_declare_schema.specs.Declarations.{count_nodes}
use Rattle.fv_declare_schema.specs.PlacedView.{placed_view}
use Rattle.fv_explain.proofs.declared.constraints.Given as goal

-- so far and those that are left make all
abbrev pub invariant-loop-placed : goal.invariant-loop-placed
invariant-loop-placed l =
    l.count + count_nodes (map (λ o. o.tree) (map placed_view (drop l.placed-index l.uses)))
    ≡ count_nodes (map (λ o. o.tree) (map placed_view l.uses))
