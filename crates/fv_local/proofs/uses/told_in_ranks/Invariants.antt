use Rattle.std.proofs.Common.{◌≡◌, ◌<◌, ℕ, List, map, Some, slice_get}
use Rattle.fv_declare_schema.specs.PlacedView.{placed_view}
use Rattle.fv_bundle.specs.Views.{object_view}
use Rattle.fv_local.specs.TableView.{lists_view}
use Rattle.fv_local.specs.Told.{Told, IsTold}
use Rattle.fv_local.proofs.uses.told_in_ranks.Given as goal

abbrev pub invariant-loop-uses : goal.invariant-loop-uses
invariant-loop-uses g l =
    (j : ℕ) (before : List ℕ) (y : Told) → j < l.uses-index → slice_get (lists_view l.ranks) j ≡ Some before
    → IsTold g.R.RuleSet.meaning l.now (object_view l.object) (map placed_view l.occurrences) before y → ⊥
