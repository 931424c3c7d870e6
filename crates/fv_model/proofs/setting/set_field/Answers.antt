use Rattle.std.proofs.Common.{sym, subst}
use Rattle.serde_json.specs.View.{view as json_view}
use Rattle.fv_datum.specs.View.{view}
use Rattle.fv_bundle.specs.Bundles.{Bundled}
use Rattle.fv_model.specs.Views.{types_view, bundle_view}
use Rattle.fv_bundle.specs.WellTyped.{IsWellTyped, HasRootType}
use Rattle.fv_model.proofs.Kept.{well_typed_with, root_type_with}
use Rattle.fv_model.proofs.Sound.{sound_given}
use Rattle.fv_model.proofs.setting.set_field.Goals as goal

pub returns-clause-well_typed : goal.returns-clause-well_typed
returns-clause-well_typed c well =
    let ts = types_view c.args.types.now in
    let b = bundle_view c.args.bundle.now in
    let d = view c.in_ok-datum.datum in
    let sound = sound_given ts b c.args.object.now c.args.field.now (json_view c.args.value.now) d c.in_ok-datum.ensures.written c.in_ok-datum.ensures.exact in
    subst (λ (x : Bundled). IsWellTyped ts x) (sym c.put.ensures) (well_typed_with ts b c.args.object.now c.args.field.now d sound well)

pub returns-clause-root : goal.returns-clause-root
returns-clause-root c type rooted =
    subst (λ (x : Bundled). HasRootType type x) (sym c.put.ensures) (root_type_with (bundle_view c.args.bundle.now) c.args.object.now c.args.field.now (view c.in_ok-datum.datum) type rooted)
