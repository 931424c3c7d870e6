use Rattle.std.proofs.Common.{rules, ◌≡◌, Some, is_some, map, sym, ap, ◌∙◌}
use Rattle.serde_json.specs.View.{view as json_view}
use Rattle.fv_bundle.specs.Bundles.{Things}
use Rattle.fv_bundle.specs.Views.{bundle_view, object_view}
use Rattle.fv_datum.specs.Lookup.{at_name}
use Rattle.fv_model.specs.Reading.{fields_of}
use Rattle.fv_model.specs.Setting.{field_use_of}
use Rattle.fv_bundle.specs.Names.{ObjectTypes, object_types_view}
use Rattle.fv_bundle.specs.Types.{type_use_view}
use Rattle.fv_bundle.specs.TypesView.{types_view}
use Rattle.fv_model_fault.specs.SetPlaces.{types_of}
use Rattle.fv_model_fault.specs.Sought.{flaw_of}
use Rattle.fv_model_fault.proofs.Sets.{in_field}
use Rattle.fv_model_fault.proofs.setting.place_in_set.Goals as goal

pub returns-clause-found : goal.returns-clause-found
returns-clause-found c = λ refused.
    let ts = types_view c.args.types.now in
    let b = bundle_view c.args.bundle.now in
    let field = c.args.set.now.field.now in
    let j = json_view c.args.set.now.value.now in
    let thing = object_view c.in-Some.found.now in
    let held = type_use_view c.in-Some-use_of.type_use.now in
    let there : at_name c.args.set.now.object.now b.objects ≡ Some thing = sym c.in-Some.ensures in
    let declared : field_use_of ts field thing ≡ Some held = ap (λ n. at_name field (fields_of ts n)) (sym c.type_name.ensures) ∙ sym c.in-Some-use_of.ensures in
    let types : object_types_view c.in_ok-names.names ≡ types_of b = c.in_ok-names.ensures ∙ ap (λ (os : Things). map (λ o. (o.0, o.1.type_name)) os) c.objects.ensures in
    let flawed = in_field ts b c.args.set.now.object.now field j c.args.fault thing (Some held) refused there declared in
    let kept : is_some c.map.result ≡ is_some c.in_ok-place.place = search rules in
    kept ∙ c.in_ok-place.ensures.found ∙ ap (λ (t : ObjectTypes). flaw_of c.args.fault t (Some held) j) types ∙ flawed
