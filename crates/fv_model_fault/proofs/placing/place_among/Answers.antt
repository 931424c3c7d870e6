use Rattle.std.proofs.Common.{◌≡◌, IfSome, is_some, option_map, sym, subst}
use Rattle.serde_json.specs.View.{view as json_view, members_view}
use Rattle.fv_datum.specs.Members.{pairs}
use Rattle.fv_model.specs.declared.fault.BundleFault.{BundleFault}
use Rattle.fv_bundle.specs.Names.{object_types_view}
use Rattle.fv_bundle.specs.Types.{name_at}
use Rattle.fv_bundle.specs.TypesView.{types_view}
use Rattle.fv_bundle.specs.declared.types.TypeId.{TypeId}
use Rattle.fv_model_fault.specs.Faults.{is_badly_named, is_untyped, HasFault}
use Rattle.fv_model_fault.specs.Told.{has_fault}
use Rattle.fv_model_fault.specs.Views.{member_view, place_view}
use Rattle.fv_model_fault.proofs.Arms.{object_told, object_placed, datum_told, datum_placed}
use Rattle.fv_model_fault.proofs.Seen.{types_given}
use Rattle.fv_model_fault.proofs.placing.place_among.Goals as goal

pub returns-in-BadName-clause-told : goal.returns-in-BadName-clause-told
returns-in-BadName-clause-told c =
    let ts = types_view c.args.types.now in
    let asked = option_map (λ (t : TypeId). name_at (types_view c.args.types.now) t.index) c.args.asked in
    let j = json_view c.args.value.now in
    subst (λ (f : BundleFault). is_some c.of_object.result ≡ has_fault ts asked j f) (sym c.in-BadName.is)
    (object_told member_view place_view is_badly_named j (pairs (members_view c.args.objects.now.entries)) c.requires c.badly_named.result c.of_object.result c.badly_named.ensures c.of_object.ensures)

pub returns-in-BadName-clause-placed : goal.returns-in-BadName-clause-placed
returns-in-BadName-clause-placed c =
    let ts = types_view c.args.types.now in
    let asked = option_map (λ (t : TypeId). name_at (types_view c.args.types.now) t.index) c.args.asked in
    let j = json_view c.args.value.now in
    subst (λ (f : BundleFault). IfSome c.of_object.result (λ p. HasFault ts asked j f (place_view p))) (sym c.in-BadName.is)
    (object_placed member_view place_view is_badly_named j (pairs (members_view c.args.objects.now.entries)) c.requires c.badly_named.result c.of_object.result c.badly_named.ensures c.of_object.ensures)

pub returns-in-UnknownType-clause-told : goal.returns-in-UnknownType-clause-told
returns-in-UnknownType-clause-told c =
    let ts = types_view c.args.types.now in
    let asked = option_map (λ (t : TypeId). name_at (types_view c.args.types.now) t.index) c.args.asked in
    let j = json_view c.args.value.now in
    subst (λ (f : BundleFault). is_some c.of_object-in-UnknownType.result ≡ has_fault ts asked j f) (sym c.in-UnknownType.is)
    (object_told member_view place_view (is_untyped (types_view c.args.types.now)) j (pairs (members_view c.args.objects.now.entries)) c.requires c.untyped.result c.of_object-in-UnknownType.result c.untyped.ensures c.of_object-in-UnknownType.ensures)

pub returns-in-UnknownType-clause-placed : goal.returns-in-UnknownType-clause-placed
returns-in-UnknownType-clause-placed c =
    let ts = types_view c.args.types.now in
    let asked = option_map (λ (t : TypeId). name_at (types_view c.args.types.now) t.index) c.args.asked in
    let j = json_view c.args.value.now in
    subst (λ (f : BundleFault). IfSome c.of_object-in-UnknownType.result (λ p. HasFault ts asked j f (place_view p))) (sym c.in-UnknownType.is)
    (object_placed member_view place_view (is_untyped (types_view c.args.types.now)) j (pairs (members_view c.args.objects.now.entries)) c.requires c.untyped.result c.of_object-in-UnknownType.result c.untyped.ensures c.of_object-in-UnknownType.ensures)

pub returns-in-UnknownField-clause-told : goal.returns-in-UnknownField-clause-told
returns-in-UnknownField-clause-told c =
    let asked = option_map (λ (t : TypeId). name_at (types_view c.args.types.now) t.index) c.args.asked in
    let j = json_view c.args.value.now in
    let os = pairs (members_view c.args.objects.now.entries) in
    let types = object_types_view c.in_ok-type_names.type_names in
    datum_told (types_view c.args.types.now) asked j os types c.requires (types_given j os types c.requires c.in_ok-type_names.ensures) c.place_in_objects.result c.args.fault c.in-UnknownField.is c.place_in_objects.ensures.told

pub returns-in-UnknownField-clause-placed : goal.returns-in-UnknownField-clause-placed
returns-in-UnknownField-clause-placed c =
    let asked = option_map (λ (t : TypeId). name_at (types_view c.args.types.now) t.index) c.args.asked in
    let j = json_view c.args.value.now in
    let os = pairs (members_view c.args.objects.now.entries) in
    let types = object_types_view c.in_ok-type_names.type_names in
    datum_placed (types_view c.args.types.now) asked j os types c.requires (types_given j os types c.requires c.in_ok-type_names.ensures) place_view c.place_in_objects.result c.args.fault c.in-UnknownField.is c.place_in_objects.ensures.placed
