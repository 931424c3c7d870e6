use Rattle.std.proofs.Common.{◌≡◌, ◌∷◌, [], Ok, Some, subst}
use Rattle.serde_json.specs.View.{view as json_view}
use Rattle.fv_bundle.specs.Views.{bundle_view}
use Rattle.fv_engine_pending.specs.Fits.{Keeps}
use Rattle.fv_engine_pending.specs.Steps.{set_step}
use Rattle.fv_engine_pending.specs.Ways.{Way, pending_view, left_at}
use Rattle.fv_engine_pending.specs.declared.fault.PartFault.TheVariants.{Memory}
use Rattle.fv_engine_pending.proofs.Fitting.{keeps_set}
use Rattle.fv_engine_pending.proofs.Stepping.{where_made, same_value}
use Rattle.fv_store.specs.Records.{Kept}
use Rattle.fv_store.specs.Stored.{stored_view}
use Rattle.fv_bundle.specs.TypesView.{types_view}
use Rattle.fv_engine_pending.proofs.applying.set.Goals as goal

pub returns-in-Ok-clause-keeps : goal.returns-in-Ok-clause-keeps
returns-in-Ok-clause-keeps c =
    let types = types_view c.args.types.now in
    let id = c.args.step.now.id.now in
    let way = pending_view c.args.pending.now in
    let less = pending_view c.take.new.self in
    let new = pending_view c.leave.new.pending in
    let k = stored_view c.in-Some.stored in
    let b = bundle_view c.set_field.new.bundle in
    let kept : Kept = record { form = k.form; bundle = b } in
    where_made Memory new c.leave.result (Ok (left_at id (Some kept) less)) (Keeps types (set_step id c.args.step.now.object.now c.args.step.now.field.now (json_view c.args.step.now.value.now) ∷ []) way new) c.leave.ensures
    (λ made. keeps_set types id c.args.step.now.object.now c.args.step.now.field.now (json_view c.args.step.now.value.now) way new k b c.in-Some.ensures.value c.set_field.ensures.well_typed c.set_field.ensures.root
    (subst (λ (w : Way). left_at id (Some kept) w ≡ new) c.in-Some.ensures.others (same_value (left_at id (Some kept) less) new made)))
