use Rattle.std.proofs.Common.{◌≡◌, ◌∷◌, [], ◌++◌, map, length, append_assoc, sym, ap, ◌∙◌, arith}
use Rattle.std.specs.Vec.Iter.{into_iter_items}
use Rattle.fv_engine_pending.specs.Steps.{step_view, steps_made}
use Rattle.fv_engine_pending.specs.Ways.{pending_view}
use Rattle.fv_engine_pending.specs.declared.parts.Step.{Step}
use Rattle.fv_engine_pending.proofs.Stepping.{first_made, keeps_next, none_left, keeps_all}
use Rattle.fv_bundle.specs.TypesView.{types_view}
use Rattle.fv_engine_pending.proofs.applying.apply_all.Goals as goal

pub loop-step-preserved : goal.loop-step-preserved
loop-step-preserved c =
    let l = c.loop-step in
    let types = types_view c.args.types.now in
    let step : Step = c.in-Some.step in
    let mid = pending_view l.pending in
    let new = pending_view c.apply.new.pending in
    let turns : into_iter_items l.step-iterator ≡ step ∷ into_iter_items c.next.new.self = c.in-Some.ensures.steps.0 in
    let rest = into_iter_items c.next.new.self in
    let counts = c.in-Some.ensures.steps.1 in
    record {
      made = sym (first_made types l.number (step_view step) (map step_view rest) mid new c.in-Ok.ensures.made) ∙ ap (λ xs. steps_made types l.number (map step_view xs) mid) (sym turns) ∙ l.invariant.made;
      all = append_assoc l.yielded (step ∷ []) rest ∙ ap (λ xs. l.yielded ++ xs) (sym turns) ∙ l.invariant.all;
      keeps = keeps_next types l.yielded step (pending_view c.args.pending.now) mid new l.invariant.keeps c.in-Ok.ensures.keeps;
      each = omega (arith, counts, l.invariant.each, ap length turns);
      few = omega (arith, counts, l.invariant.few);
    }

pub returns-clause-keeps : goal.returns-clause-keeps
returns-clause-keeps c =
    let l = c.loop-step in
    keeps_all (types_view c.args.types.now) l.yielded (into_iter_items l.step-iterator) c.args.steps.items (pending_view c.args.pending.now) (pending_view l.pending)
    (none_left (into_iter_items l.step-iterator) (sym l.invariant.each ∙ c.in-None.ensures.steps.0)) l.invariant.all l.invariant.keeps
