use Rattle.std.proofs.Common.{◌≡◌, true, false, List, map, take, refl, sym, subst, ◌∙◌, arith}
use Rattle.fv_walk_traces.specs.Turns.{ShadowsByRecursion, Turns}
use Rattle.fv_listing.specs.Listed.{IsHidden}
use Rattle.fv_listing.specs.Turns.{turn_view, turns_view}
use Rattle.fv_listing.specs.Visits.{visit_view}
use Rattle.fv_listing.proofs.Told.{hidden_more, seen_at, seen_more}
use Rattle.fv_listing.proofs.listing.is_hidden.Goals as goal

pub returns-then-shadows : goal.returns-then-shadows
returns-then-shadows c = (
  λ _. (
    turns_view c.other-item.result,
    seen_at turns_view c.args.failing.now c.loop-other.other-index c.other-item.result (omega arith) c.other-item.is,
    (rw (c.deref.ensures.value, c.deref-in-loop-other.ensures.value) at c.shadows.ensures).0 c.if-shadows.true,
  ),
  λ _. refl,
)

pub loop-other-preserved : goal.loop-other-preserved
loop-other-preserved c =
    let turns = (visit_view c.args.visit.now).turns in
    let more = seen_more turns_view c.args.failing.now c.loop-other.other-index c.other-item.result (omega arith) c.other-item.is in
    subst (λ (l : List Turns). IsHidden l turns → ⊥) (sym more)
    (hidden_more (map turns_view (take c.loop-other.other-index c.args.failing.now)) (turns_view c.other-item.result) turns c.loop-other.invariant
    (λ h. (let clash : true ≡ false = sym ((rw (c.deref.ensures.value, c.deref-in-loop-other.ensures.value) at c.shadows.ensures).1 h) ∙ c.if-shadows.false in cc)))
