use Rattle.std.proofs.Common.{◌≡◌, ℕ, List, map, option_map, Option, Bor, true, false, is_some, Some, None, inl, inr, refl, sym, subst, ap, ◌∙◌}
use Rattle.std.proofs.lemmas.Int.{to_z-of_z}
use mir.Syntax.{w64}
use Rattle.fv_datum.specs.Members.{each_some}
use Rattle.fv_declare_schema.specs.Declarations.{Declarations}
use Rattle.fv_engine_machine.specs.Keeping.{ChecksField, valued_by}
use Rattle.fv_declare_schema.specs.Groups.{Groups, group_number, numbers_of}
use Rattle.fv_declare_schema.specs.Judged.{unknown_group_in}
use Rattle.fv_declare_schema.specs.Tables.{indices}
use Rattle.fv_walk.specs.Properties.{field_number}
use Rattle.fv_walk.specs.FieldVisits.{HasTooManyVisitsAt, HasFewVisitsAt}
use Rattle.fv_engine_reply.specs.Answers.{value_checked, refused}
use Rattle.fv_engine_reply.specs.declared.answer.Refusal.{Refusal}
use Rattle.fv_engine_reply.specs.declared.answer.Refusal.TheVariants.{NoSuchField}
use Rattle.fv_validate.specs.ViolationView.{violation_view}
use Rattle.fv_validate.specs.Violations.{IsListingOfField}
use Rattle.fv_datum.specs.View.{view}
use Rattle.fv_datum.specs.declared.datum.Datum.{Datum}
use Rattle.fv_validate.specs.Values.{FitsField, valued}
use Rattle.fv_engine_machine.proofs.OneField.{use_fits, field_told, field_listed}
use Rattle.fv_engine_machine.proofs.Groups.{all_named, not_named}
use Rattle.fv_engine_machine.proofs.fields.datum_checked.Goals as goal

pub returns-in-Ok-None : goal.returns-in-Ok-None
returns-in-Ok-None g c =
    let m = g.R.RuleSet.meaning in
    let ds = c.args.book.now in
    let names = map (λ n. n.now) c.args.names.now in
    let same : c.groups.result.now ≡ ds.groups = c.groups.ensures ∙ ap (λ (d : Declarations). d.groups) c.schema.ensures in
    let none : None ≡ each_some (group_number c.groups.result.now) names = rw c.in-Ok-None.field-0-is at c.in-Ok-None.ensures.numbers in
    inl (subst (λ (gs : Groups). unknown_group_in gs names ≡ true) same (not_named c.groups.result.now names none), refl)

pub returns-in_default : goal.returns-in_default
returns-in_default g c =
    let m = g.R.RuleSet.meaning in
    let ds = c.args.book.now in
    let names = map (λ n. n.now) c.args.names.now in
    let same : c.groups.result.now ≡ ds.groups = c.groups.ensures ∙ ap (λ (d : Declarations). d.groups) c.schema.ensures in
    let some : Some (indices c.in-Ok-Some.asked.items) ≡ each_some (group_number c.groups.result.now) names = rw c.in-Ok-Some.field-0-is at c.in-Ok-Some.ensures.numbers in
    let named = all_named c.groups.result.now names (indices c.in-Ok-Some.asked.items) some in
    let numbers : indices c.in-Ok-Some.asked.items ≡ numbers_of ds.groups names = named.1 ∙ ap (λ (gs : Groups). numbers_of gs names) same in
    let known : unknown_group_in ds.groups names ≡ false = subst (λ (gs : Groups). unknown_group_in gs names ≡ false) same named.0 in
    subst (λ (o : Option (Bor Datum)). ChecksField m ds c.args.now (valued_by ds.types c.args.at.now.type_name.now c.args.at.now.field.now (option_map (λ x. view x.now) o)) c.args.at.now.field.now names value_checked (refused NoSuchField)) (sym c.in_default.is) (inr (inl (known, refl)))

pub returns-in-Ok : goal.returns-in-Ok
returns-in-Ok g c =
    let m = g.R.RuleSet.meaning in
    let ds = c.args.book.now in
    let names = map (λ n. n.now) c.args.names.now in
    let same : c.groups.result.now ≡ ds.groups = c.groups.ensures ∙ ap (λ (d : Declarations). d.groups) c.schema.ensures in
    let some : Some (indices c.in-Ok-Some.asked.items) ≡ each_some (group_number c.groups.result.now) names = rw c.in-Ok-Some.field-0-is at c.in-Ok-Some.ensures.numbers in
    let named = all_named c.groups.result.now names (indices c.in-Ok-Some.asked.items) some in
    let numbers : indices c.in-Ok-Some.asked.items ≡ numbers_of ds.groups names = named.1 ∙ ap (λ (gs : Groups). numbers_of gs names) same in
    let known : unknown_group_in ds.groups names ≡ false = subst (λ (gs : Groups). unknown_group_in gs names ≡ false) same named.0 in
    let d = view c.in-Some.datum.now in
    let thing = valued ds.types c.args.at.now.type_name.now c.args.at.now.field.now d in
    let vs = map violation_view c.in-Ok.violations.items in
    let of = rw c.in-Some.is at c.requires.fits in
    let fits : FitsField ds.types c.args.at.now.type_name.now c.args.at.now.field.now d = use_fits ds.types c.args.at.now.type_name.now c.args.at.now.field.now d of in
    let few : HasFewVisitsAt ds thing (indices c.in-Ok-Some.asked.items) = rw c.deref.ensures.value at c.in-Ok.ensures.few in
    let listing : IsListingOfField m ds c.args.now thing c.args.at.now.field.now (indices c.in-Ok-Some.asked.items) vs = rw (c.deref.ensures.value, to_z-of_z w64 c.args.now c.ranges.now) at (c.in-Ok.ensures.listing fits) in
    subst (λ (o : Option (Bor Datum)). ChecksField m ds c.args.now (valued_by ds.types c.args.at.now.type_name.now c.args.at.now.field.now (option_map (λ x. view x.now) o)) c.args.at.now.field.now names value_checked (value_checked vs)) (sym c.in-Some.is)
    (field_listed m ds c.args.now thing c.args.at.now.field.now names value_checked known vs c.in-Ok.ensures.there (subst (λ (gs : List ℕ). HasFewVisitsAt ds thing gs) numbers few)
    (subst (λ (gs : List ℕ). IsListingOfField m ds c.args.now thing c.args.at.now.field.now gs vs) numbers listing))

pub returns : goal.returns
returns g c =
    let m = g.R.RuleSet.meaning in
    let ds = c.args.book.now in
    let names = map (λ n. n.now) c.args.names.now in
    let same : c.groups.result.now ≡ ds.groups = c.groups.ensures ∙ ap (λ (d : Declarations). d.groups) c.schema.ensures in
    let some : Some (indices c.in-Ok-Some.asked.items) ≡ each_some (group_number c.groups.result.now) names = rw c.in-Ok-Some.field-0-is at c.in-Ok-Some.ensures.numbers in
    let named = all_named c.groups.result.now names (indices c.in-Ok-Some.asked.items) some in
    let numbers : indices c.in-Ok-Some.asked.items ≡ numbers_of ds.groups names = named.1 ∙ ap (λ (gs : Groups). numbers_of gs names) same in
    let known : unknown_group_in ds.groups names ≡ false = subst (λ (gs : Groups). unknown_group_in gs names ≡ false) same named.0 in
    let d = view c.in-Some.datum.now in
    let thing = valued ds.types c.args.at.now.type_name.now c.args.at.now.field.now d in
    let many = rw c.deref.ensures.value at c.in-Err-validate_value.ensures.many in
    subst (λ (o : Option (Bor Datum)). ChecksField m ds c.args.now (valued_by ds.types c.args.at.now.type_name.now c.args.at.now.field.now (option_map (λ x. view x.now) o)) c.args.at.now.field.now names value_checked (refused c.unjudged.result)) (sym c.in-Some.is)
    (subst (λ (r : Refusal). ChecksField m ds c.args.now (Some thing) c.args.at.now.field.now names value_checked (refused r)) (sym c.unjudged.ensures)
    (field_told m ds c.args.now thing c.args.at.now.field.now names value_checked known c.in-Err-validate_value.fault c.in-Err-validate_value.ensures.known c.in-Err-validate_value.ensures.absent
    (λ is. subst (λ (gs : List ℕ). (is_some (field_number ds.types thing.type_name c.args.at.now.field.now) ≡ true) × HasTooManyVisitsAt ds thing gs) numbers (many is))))
