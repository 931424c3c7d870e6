use Rattle.std.proofs.Common.{◌≡◌, false, map, not, is_some, take, drop}
use Rattle.std.specs.List.{AllZip, list_any}
use Rattle.fv_constraint.specs.Meanings.{meant_by}
use Rattle.fv_flatten.specs.Placed.{IsPlannedFor}
use Rattle.fv_flatten.specs.UseViews.{use_view}
use Rattle.fv_flatten.proofs.placed.plan_uses.Given as goal

abbrev pub invariant-loop-used : goal.invariant-loop-used
invariant-loop-used l = record {
  planned : AllZip (IsPlannedFor l.composition) (map use_view (take l.used-index l.uses)) l.trees.items;
  known : list_any (λ u. not (is_some (meant_by l.composition u.constraint))) (map use_view (drop l.used-index l.uses)) ≡ false;
}
