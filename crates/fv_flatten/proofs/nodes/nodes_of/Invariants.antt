use Rattle.std.proofs.Common.{◌≡◌, false, map, drop, take}
use Rattle.std.specs.List.{AllZip, list_any}
use Rattle.fv_registry.specs.Rules.{Known}
use Rattle.fv_constraint_tree.specs.TargetViews.{target_view}
use Rattle.fv_constraint.specs.PlannedViews.{planned_view, planned_entry}
use Rattle.fv_flatten.specs.Read.{IsEntry, refuses_its_given, refuses_at}
use Rattle.fv_flatten.proofs.nodes.nodes_of.Given as goal
use Rattle.fv_constraint_tree.specs.Views.{entry_view}

abbrev pub invariant-loop-number : goal.invariant-loop-number
invariant-loop-number l = record {
  made : AllZip (IsEntry (target_view l.place)) (map planned_entry (take l.number l.spots)) (map entry_view l.nodes.items);
  attributes : list_any refuses_its_given (map (λ s. planned_view s.value) (drop l.number l.spots)) ≡ false;
  places : (k : Known) × (list_any (refuses_at k (target_view l.place)) (map (λ s. planned_view s.value) (drop l.number l.spots)) ≡ false);
}
