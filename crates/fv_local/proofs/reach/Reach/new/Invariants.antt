use Rattle.std.proofs.Common.{◌≡◌, ◌<◌, ℕ, length, slice_get, option_and_then}
use Rattle.fv_local.specs.Reached.{AreReached, IsRanked, plain_groups, ranks_of, entry}
use Rattle.fv_local.specs.TableView.{rows_view, ranked_view}
use Rattle.fv_local.proofs.reach.Reach.new.Given as goal

abbrev pub invariant-loop-index : goal.invariant-loop-index
invariant-loop-index l = record {
  plain_long : length l.plain.items ≡ l.index;
  ranked_long : length l.ranked.items ≡ l.index;
  plain : (type : ℕ) → type < l.index → (g : ℕ) → g < length l.schema.groups → AreReached l.schema type (plain_groups l.schema type g) (entry (rows_view l.plain.items) type g);
  ranked : (type : ℕ) → type < l.index → IsRanked l.schema type (ranks_of l.schema type) (option_and_then (λ lists. lists) (slice_get (ranked_view l.ranked.items) type));
}
