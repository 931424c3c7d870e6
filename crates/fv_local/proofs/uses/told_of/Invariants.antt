use Rattle.std.proofs.Common.{◌≡◌, ◌<◌, ◌++◌, ◌↔◌, ℕ, List, map, length}
use Rattle.std.specs.List.{All}
use Rattle.fv_declare_schema.specs.PlacedView.{placed_view}
use Rattle.fv_graph.specs.Graph.{IsIn}
use Rattle.fv_bundle.specs.Views.{object_view}
use Rattle.fv_local.specs.Told.{Told, told_view, IsTold}
use Rattle.fv_local.proofs.uses.told_of.Given as goal

abbrev pub invariant-loop-rest : goal.invariant-loop-rest
invariant-loop-rest g l = record {
  within : All (λ i. i < length l.occurrences) l.rest;
  told : (done : List ℕ) × (done ++ l.rest ≡ l.uses)
      × ((x : Told) → IsIn (map told_view l.failures.items) x ↔ IsTold g.R.RuleSet.meaning l.now (object_view l.object) (map placed_view l.occurrences) done x);
}

abbrev pub decreases-loop-rest : goal.decreases-loop-rest
decreases-loop-rest g l = length l.rest
