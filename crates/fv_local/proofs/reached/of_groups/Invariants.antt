use Rattle.std.proofs.Common.{◌≡◌, ◌<◌, ℕ, length}
use Rattle.fv_local.specs.Reached.{AreReached, plain_groups, list_at}
use Rattle.fv_local.specs.TableView.{lists_view}
use Rattle.fv_local.proofs.reached.of_groups.Given as goal

abbrev pub invariant-loop-index : goal.invariant-loop-index
invariant-loop-index l = record {
  long : length l.row.items ≡ l.index;
  each : (g : ℕ) → g < l.index → AreReached l.schema l.uses.type_id.index (plain_groups l.schema l.uses.type_id.index g) (list_at (lists_view l.row.items) g);
}
