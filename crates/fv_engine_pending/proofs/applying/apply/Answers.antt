use Rattle.std.proofs.Common.{◌∷◌, [], OnOk, sym, subst}
use Rattle.std.specs.Result.{result_map_both}
use Rattle.fv_bundle.specs.Views.{bundle_view}
use Rattle.fv_engine_pending.specs.Fits.{Keeps}
use Rattle.fv_engine_pending.specs.Steps.{put_step, remove_step, left_as, removed_on, step_view}
use Rattle.fv_engine_pending.specs.Ways.{pending_view, standing_at}
use Rattle.fv_engine_pending.specs.declared.fault.PartFault.TheVariants.{Memory}
use Rattle.fv_engine_pending.specs.declared.parts.Step.{Step}
use Rattle.fv_engine_pending.proofs.Fitting.{keeps_put, keeps_remove}
use Rattle.fv_engine_pending.proofs.Stepping.{where_made}
use Rattle.fv_bundle.specs.TypesView.{types_view}
use Rattle.fv_engine_pending.proofs.applying.apply.Goals as goal

pub returns-in-Put-clause-keeps : goal.returns-in-Put-clause-keeps
returns-in-Put-clause-keeps c =
    let types = types_view c.args.types.now in
    let way = pending_view c.args.pending.now in
    let new = pending_view c.put.new.pending in
    let given = result_map_both bundle_view (λ e. e) c.in-Put.bundle in
    subst (λ (s : Step). OnOk c.put.result (Keeps types (step_view s ∷ []) way new)) (sym c.in-Put.is)
    (where_made Memory new c.put.result (left_as c.in-Put.id.now c.in-Put.form.now way given) (Keeps types (put_step c.in-Put.id.now c.in-Put.form.now given ∷ []) way new) c.put.ensures
    (keeps_put types c.in-Put.id.now c.in-Put.form.now way new given))

pub returns-in-Set-clause-keeps : goal.returns-in-Set-clause-keeps
returns-in-Set-clause-keeps c =
    subst (λ (s : Step). OnOk c.set.result (Keeps (types_view c.args.types.now) (step_view s ∷ []) (pending_view c.args.pending.now) (pending_view c.set.new.pending))) (sym c.in-Set.is) c.set.ensures.keeps

pub returns-in-Remove-clause-keeps : goal.returns-in-Remove-clause-keeps
returns-in-Remove-clause-keeps c =
    let types = types_view c.args.types.now in
    let id = c.in-Remove.id.now in
    let way = pending_view c.args.pending.now in
    let new = pending_view c.remove.new.pending in
    subst (λ (s : Step). OnOk c.remove.result (Keeps types (step_view s ∷ []) way new)) (sym c.in-Remove.is)
    (where_made Memory new c.remove.result (removed_on id way (standing_at id way)) (Keeps types (remove_step id ∷ []) way new) c.remove.ensures (keeps_remove types id way new (standing_at id way)))
