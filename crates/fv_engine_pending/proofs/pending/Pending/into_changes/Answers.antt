use Rattle.fv_engine_pending.specs.Ways.{pending_view}
use Rattle.fv_engine_pending.proofs.Changing.{all_made, way-ascends, after_changes, changes_fit, changes_short, changes_rows}
use Rattle.fv_engine_pending.proofs.Fitting.{all_fit, shorts}
use Rattle.fv_engine_pending.proofs.pending.Pending.into_changes.Goals as goal

pub returns-clause-after : goal.returns-clause-after
returns-clause-after c =
    let l = c.loop-id in
    after_changes l.changes.items (pending_view c.args.self) (all_made l.changes.items l.id-iterator _ c.in-None.ensures.steps.0 l.invariant)
    (way-ascends c.args.self.records.entries c.into_iter-id-iterator.ensures.into_iter_gives.5)

pub returns-clause-fit : goal.returns-clause-fit
returns-clause-fit c = λ types forms m fitting.
    let l = c.loop-id in
    let ascending = way-ascends c.args.self.records.entries c.into_iter-id-iterator.ensures.into_iter_gives.5 in
    changes_fit l.changes.items (pending_view c.args.self) (all_made l.changes.items l.id-iterator _ c.in-None.ensures.steps.0 l.invariant) types forms m
    (all_fit types forms (pending_view c.args.self) ascending fitting)

pub returns-clause-short : goal.returns-clause-short
returns-clause-short c = λ short.
    let l = c.loop-id in
    let ascending = way-ascends c.args.self.records.entries c.into_iter-id-iterator.ensures.into_iter_gives.5 in
    changes_short l.changes.items (pending_view c.args.self) (all_made l.changes.items l.id-iterator _ c.in-None.ensures.steps.0 l.invariant)
    (shorts (pending_view c.args.self) ascending short)

pub returns-clause-rows : goal.returns-clause-rows
returns-clause-rows c = λ types typed.
    let l = c.loop-id in
    changes_rows l.changes.items (pending_view c.args.self) (all_made l.changes.items l.id-iterator _ c.in-None.ensures.steps.0 l.invariant) types typed
