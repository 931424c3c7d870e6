use Rattle.std.proofs.Common.{not, is_some, refl, arith}
use Rattle.fv_constraint.specs.Meanings.{meant_by}
use Rattle.fv_flatten.proofs.Spots.{zipped, passes_later}
use Rattle.fv_flatten.specs.Placed.{IsPlannedFor}
use Rattle.fv_flatten.specs.UseViews.{use_view}
use Rattle.fv_flatten.proofs.placed.plan_uses.Goals as goal

pub loop-used-preserved : goal.loop-used-preserved
loop-used-preserved c =
    let l = c.loop-used in
    let x = c.used-item.result in
    let xs = c.args.uses.now in
    let ds = c.args.composition.now in
    record {
      planned = rw c.in_ok-push.ensures.items (zipped use_view (IsPlannedFor ds) xs l.used-index x l.trees.items (record { place = x.place; spots = c.in_ok-plan.field-0 }) (omega arith) c.used-item.is l.invariant.planned (refl, c.in_ok-plan.ensures));
      known = passes_later use_view (λ u. not (is_some (meant_by ds u.constraint))) xs l.used-index x (omega arith) c.used-item.is l.invariant.known;
    }
