use Rattle.std.proofs.Common.{◌≡◌, ◌<◌, ℕ, Some, slice_get}
use Rattle.fv_declare_schema.specs.Tables.{indices}
use Rattle.fv_bundle.specs.Views.{object_view}
use Rattle.fv_walk_traces.specs.Turns.{LocalFailure}
use Rattle.fv_walk.specs.Ranks.{FailsIn}
use Rattle.fv_walk.proofs.property.first_failures.Given as goal

abbrev pub invariant-loop-rank : goal.invariant-loop-rank
invariant-loop-rank g l =
    (j before : ℕ) (f : LocalFailure) → j < l.rank-index → slice_get (indices l.rank-items) j ≡ Some before → FailsIn g.R.RuleSet.meaning l.rulebook l.now (object_view l.object) l.field before f → ⊥
