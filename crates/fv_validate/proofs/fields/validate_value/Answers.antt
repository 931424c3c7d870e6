use Rattle.std.proofs.Common.{◌≡◌, ℕ, List, map, Some, None, true, is_some, sym, ap, subst, ◌∙◌}
use Rattle.std.proofs.lemmas.Int.{to_z-of_z}
use Rattle.std.proofs.lemmas.List.Elements.{recursion_from_All}
use Rattle.std.proofs.lemmas.Result.{IfOk-weaker, IfErr-weaker, on_ok_weaker}
use mir.Syntax.{w64}
use Rattle.fv_datum.specs.View.{view}
use Rattle.fv_declare_schema.specs.Declarations.{Declarations}
use Rattle.fv_declare_schema.specs.Tables.{indices}
use Rattle.fv_bundle.specs.Bundles.{Thing}
use Rattle.fv_model.specs.Single.{kept, single_of}
use Rattle.fv_bundle.specs.Views.{types_view, object_view}
use Rattle.fv_walk.specs.Properties.{field_number}
use Rattle.fv_bundle.specs.WellTyped.{IsOfType}
use Rattle.fv_datum.proofs.Lists.{all_get}
use Rattle.fv_bundle.specs.Types.{DeclaredFields, Declared, AreApart, fields_view}
use Rattle.fv_validate.specs.Values.{FitsField, valued}
use Rattle.fv_validate.specs.ViolationView.{violation_view}
use Rattle.fv_validate.specs.Violations.{Reported, IsListingOfField}
use Rattle.fv_walk.proofs.Counted.{few_of_any, many_of_any}
use Rattle.fv_validate.proofs.Values.{made, valued_typed, absent}
use Rattle.fv_validate.proofs.fields.validate_value.Goals as goal

pub returns-in_default-2-clause-absent : goal.returns-in_default-2-clause-absent
returns-in_default-2-clause-absent g c =
    let ts = types_view c.types-types.result.now in
    let type = c.args.type_name.now in
    let name = c.args.field.now in
    let d = kept (view c.args.datum.now) in
    let fields = fields_view c.in-Some.field-0-1.now in
    let same : ts ≡ c.args.rulebook.now.types = c.types-types.ensures ∙ ap (λ (x : Declarations). x.types) c.schema.ensures in
    let none : None ≡ single_of ts c.in-Some.type_id.index name d = rw c.in_default-2.is at c.in_ok-object.ensures in
    λ e. subst (λ (t : Declared). field_number t type name ≡ None) same (absent ts type name d fields (sym c.in-Some.ensures.found) c.in-Some.type_id.index c.in-Some.ensures.placed none)

pub returns-clause-listing : goal.returns-clause-listing
returns-clause-listing g c =
    let m = g.R.RuleSet.meaning in
    let ds = c.args.rulebook.now in
    let ts = types_view c.types-types.result.now in
    let type = c.args.type_name.now in
    let name = c.args.field.now in
    let asked = indices c.args.asked.now in
    let d = view c.args.datum.now in
    let fields = fields_view c.in-Some.field-0-1.now in
    let object = object_view c.in-Some-2.object in
    let same : ts ≡ ds.types = c.types-types.ensures ∙ ap (λ (x : Declarations). x.types) c.schema.ensures in
    let some : Some object ≡ single_of ts c.in-Some.type_id.index name (kept d) = rw c.in-Some-2.is at c.in_ok-object.ensures in
    let apart : AreApart fields =
    all_get (λ (t : List ℕ × DeclaredFields). AreApart t.1) ts c.in-Some.type_id.index (type, fields) (recursion_from_All (λ (t : List ℕ × DeclaredFields). AreApart t.1) ts c.types-types.result.now.apart) c.in-Some.ensures.placed in
    let of : FitsField ds.types type name d → IsOfType ds.types object × (object ≡ valued ds.types type name d) =
    subst (λ (t : Declared). FitsField t type name d → IsOfType t object × (object ≡ valued t type name d)) same (valued_typed ts type name d fields (sym c.in-Some.ensures.found) c.in-Some.type_id.index c.in-Some.ensures.placed object apart some) in
    IfOk-weaker c.validate_property.result _ _ (λ v told fits. subst (λ (t : Thing). IsListingOfField m ds c.args.now t name asked (map violation_view v.items)) (of fits).1 (told (of fits).0))
    (rw (to_z-of_z w64 c.args.now c.ranges.now) at c.validate_property.ensures.listing)

pub returns-clause-alike : goal.returns-clause-alike
returns-clause-alike g c =
    let m = g.R.RuleSet.meaning in
    let ds = c.args.rulebook.now in
    let ts = types_view c.types-types.result.now in
    let type = c.args.type_name.now in
    let name = c.args.field.now in
    let asked = indices c.args.asked.now in
    let d = view c.args.datum.now in
    let fields = fields_view c.in-Some.field-0-1.now in
    let object = object_view c.in-Some-2.object in
    let same : ts ≡ ds.types = c.types-types.ensures ∙ ap (λ (x : Declarations). x.types) c.schema.ensures in
    let some : Some object ≡ single_of ts c.in-Some.type_id.index name (kept d) = rw c.in-Some-2.is at c.in_ok-object.ensures in
    let apart : AreApart fields =
    all_get (λ (t : List ℕ × DeclaredFields). AreApart t.1) ts c.in-Some.type_id.index (type, fields) (recursion_from_All (λ (t : List ℕ × DeclaredFields). AreApart t.1) ts c.types-types.result.now.apart) c.in-Some.ensures.placed in
    let of : FitsField ds.types type name d → IsOfType ds.types object × (object ≡ valued ds.types type name d) =
    subst (λ (t : Declared). FitsField t type name d → IsOfType t object × (object ≡ valued t type name d)) same (valued_typed ts type name d fields (sym c.in-Some.ensures.found) c.in-Some.type_id.index c.in-Some.ensures.placed object apart some) in
    IfOk-weaker c.validate_property.result _ _ (λ v told fits. subst (λ (t : Thing). (vs : List Reported) → IsListingOfField m ds c.args.now t name asked vs → vs ≡ map violation_view v.items) (of fits).1 (told (of fits).0))
    (rw (to_z-of_z w64 c.args.now c.ranges.now) at c.validate_property.ensures.alike)

pub returns-clause-few : goal.returns-clause-few
returns-clause-few g c =
    let ds = c.args.rulebook.now in
    on_ok_weaker c.validate_property.result (few_of_any ds (object_view c.in-Some-2.object) (valued ds.types c.args.type_name.now c.args.field.now (view c.args.datum.now)) (indices c.args.asked.now)) c.validate_property.ensures.few

pub returns-clause-many : goal.returns-clause-many
returns-clause-many g c =
    let ds = c.args.rulebook.now in
    let ts = types_view c.types-types.result.now in
    let type = c.args.type_name.now in
    let name = c.args.field.now in
    let asked = indices c.args.asked.now in
    let d = view c.args.datum.now in
    let fields = fields_view c.in-Some.field-0-1.now in
    let object = object_view c.in-Some-2.object in
    let some : Some object ≡ single_of ts c.in-Some.type_id.index name (kept d) = rw c.in-Some-2.is at c.in_ok-object.ensures in
    let named : object.type_name ≡ type = ap (λ (t : Thing). t.type_name) (made ts type name (kept d) fields (sym c.in-Some.ensures.found) c.in-Some.type_id.index c.in-Some.ensures.placed object some) in
    IfErr-weaker c.validate_property.result _ _ (λ fault it is.
    (subst (λ (t : List ℕ). is_some (field_number ds.types t name) ≡ true) named (it is).0, many_of_any ds object (valued ds.types type name d) asked (it is).1)) c.validate_property.ensures.many
