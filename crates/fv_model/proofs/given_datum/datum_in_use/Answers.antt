use Rattle.std.proofs.Common.{◌≡◌, ◌∙◌, ap, sym}
use Rattle.serde_json.specs.View.{view as json_view}
use Rattle.fv_datum.specs.View.{view}
use Rattle.fv_bundle.specs.Names.{object_types_view}
use Rattle.fv_bundle.specs.Types.{type_use_view}
use Rattle.fv_model.specs.Views.{bundle_view}
use Rattle.fv_model.specs.Setting.{datum_in_use}
use Rattle.fv_model.proofs.Conditions.{types_of}
use Rattle.fv_model.proofs.Sound.{use_told}
use Rattle.fv_model.proofs.given_datum.datum_in_use.Goals as goal

pub returns-in-Some-clause-exact : goal.returns-in-Some-clause-exact
returns-in-Some-clause-exact c other =
    let u = type_use_view c.args.type_use.now in
    let j = json_view c.args.value.now in
    let told = c.flaws_of.ensures in
    let types : object_types_view c.in_ok-types.types ≡ types_of (bundle_view c.args.bundle.now).objects = c.in_ok-types.ensures ∙ ap types_of c.objects.ensures in
    ap (λ ts. datum_in_use ts u j) (sym types)
    ∙ use_told (object_types_view c.in_ok-types.types) u j (view c.in_ok-datum.datum) _ _ _ _ c.in_ok-datum.ensures.exact told.dangling told.stray told.large (sym c.in-Some.is ∙ c.flaw_fault.ensures)

pub returns-in-None-clause-exact : goal.returns-in-None-clause-exact
returns-in-None-clause-exact c =
    let u = type_use_view c.args.type_use.now in
    let j = json_view c.args.value.now in
    let told = c.flaws_of.ensures in
    let types : object_types_view c.in_ok-types.types ≡ types_of (bundle_view c.args.bundle.now).objects = c.in_ok-types.ensures ∙ ap types_of c.objects.ensures in
    ap (λ ts. datum_in_use ts u j) (sym types)
    ∙ use_told (object_types_view c.in_ok-types.types) u j (view c.in_ok-datum.datum) _ _ _ _ c.in_ok-datum.ensures.exact told.dangling told.stray told.large (sym c.in-None.is ∙ c.flaw_fault.ensures)
