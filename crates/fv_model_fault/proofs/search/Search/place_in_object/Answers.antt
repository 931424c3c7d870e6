use Rattle.std.proofs.Common.{◌≡◌, [], Some, find, is_some, option_map, refl, sym, ap, ◌∙◌}
use Rattle.std.specs.Option.{option_map_or}
use Rattle.serde_json.specs.View.{view as json_view, members_view}
use Rattle.fv_datum.specs.Lookup.{at_name}
use Rattle.fv_datum.specs.Members.{pairs}
use Rattle.fv_bundle.specs.Types.{fields_view}
use Rattle.fv_bundle.specs.TypesView.{types_view}
use Rattle.fv_model_fault.specs.Faults.{is_flawed}
use Rattle.fv_model_fault.specs.Given.{type_in, fields_in}
use Rattle.fv_model_fault.specs.SearchViews.{sought}
use Rattle.fv_model_fault.specs.Views.{member_view}
use Rattle.fv_model_fault.proofs.Arms.{field_told}
use Rattle.fv_model_fault.proofs.Finds.{find-passes}
use Rattle.fv_model_fault.proofs.search.Search.place_in_object.Goals as goal

pub returns-in_default-2-clause-told : goal.returns-in_default-2-clause-told
returns-in_default-2-clause-told c =
    let ts = types_view c.args.types.now in
    let fields = fields_view c.in-Some.fields.now in
    let gs = pairs (members_view c.in-Some-object_at.given.now.entries) in
    let declared : at_name (type_in (json_view c.args.object.now)) ts ≡ Some fields = ap (λ t. at_name t ts) (sym c.type_of.ensures) ∙ sym c.in-Some.ensures in
    let given : fields_in (json_view c.args.object.now) ≡ gs = ap (λ ms. option_map_or pairs ms []) (sym c.in-Some-object_at.ensures) in
    ap is_some (sym c.in_default-2.is) ∙ field_told member_view (sought c.args.self.now) ts (c.args.name.now, json_view c.args.object.now) fields gs c.in_ok-field.field-0 declared given c.in_ok-field.ensures

pub descend_at-requires : goal.descend_at-requires
descend_at-requires c =
    let fields = fields_view c.in-Some.fields.now in
    let gs = pairs (members_view c.in-Some-object_at.given.now.entries) in
    let test = is_flawed (sought c.args.self.now) fields in
    let found : find test gs ≡ Some (c.in-Some-2.field.now, json_view c.in-Some-2.value.now) = sym c.in_ok-field.ensures ∙ ap (option_map member_view) c.in-Some-2.is in
    rw c.use_in.ensures (find-passes test gs (c.in-Some-2.field.now, json_view c.in-Some-2.value.now) found)

pub returns-clause-told : goal.returns-clause-told
returns-clause-told c =
    let ts = types_view c.args.types.now in
    let fields = fields_view c.in-Some.fields.now in
    let gs = pairs (members_view c.in-Some-object_at.given.now.entries) in
    let declared : at_name (type_in (json_view c.args.object.now)) ts ≡ Some fields = ap (λ t. at_name t ts) (sym c.type_of.ensures) ∙ sym c.in-Some.ensures in
    let given : fields_in (json_view c.args.object.now) ≡ gs = ap (λ ms. option_map_or pairs ms []) (sym c.in-Some-object_at.ensures) in
    ap is_some (sym c.in-Some-2.is) ∙ field_told member_view (sought c.args.self.now) ts (c.args.name.now, json_view c.args.object.now) fields gs c.in_ok-field.field-0 declared given c.in_ok-field.ensures

pub returns-clause-placed : goal.returns-clause-placed
returns-clause-placed c =
    let ts = types_view c.args.types.now in
    let fields = fields_view c.in-Some.fields.now in
    let gs = pairs (members_view c.in-Some-object_at.given.now.entries) in
    let test = is_flawed (sought c.args.self.now) fields in
    let declared : at_name (type_in (json_view c.args.object.now)) ts ≡ Some fields = ap (λ t. at_name t ts) (sym c.type_of.ensures) ∙ sym c.in-Some.ensures in
    let given : fields_in (json_view c.args.object.now) ≡ gs = ap (λ ms. option_map_or pairs ms []) (sym c.in-Some-object_at.ensures) in
    let found : find test gs ≡ Some (c.in-Some-2.field.now, json_view c.in-Some-2.value.now) = sym c.in_ok-field.ensures ∙ ap (option_map member_view) c.in-Some-2.is in
    let flaw = rw c.use_in.ensures at c.in_ok-place.ensures in
    record {
      fields = fields;
      given = (c.in-Some-2.field.now, json_view c.in-Some-2.value.now);
      declared = declared;
      first_field = ap (find test) given ∙ found;
      in_object = refl;
      in_field = refl;
      flawed = record { led = flaw.led; flawed = flaw.flawed; innermost = flaw.innermost };
    }
