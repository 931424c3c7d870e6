use Rattle.std.proofs.Common.{◌≡◌, ℕ, List, map, true, false, Some, None, inl, inr, refl, subst, ap, ◌∙◌}
use Rattle.std.proofs.lemmas.Int.{to_z-of_z}
use mir.Syntax.{w64}
use Rattle.fv_datum.specs.Members.{each_some}
use Rattle.fv_declare_schema.specs.Declarations.{Declarations}
use Rattle.fv_declare_schema.specs.Groups.{Groups, group_number, numbers_of}
use Rattle.fv_declare_schema.specs.Judged.{unknown_group_in}
use Rattle.fv_declare_schema.specs.Tables.{indices}
use Rattle.fv_bundle.specs.Views.{bundle_view}
use Rattle.fv_validate.specs.ViolationView.{violation_view}
use Rattle.fv_validate.specs.Violations.{IsListing}
use Rattle.fv_walk.specs.Visits.{HasTooManyVisits, HasFewVisits}
use Rattle.fv_engine_machine.proofs.Becoming.{not_checked}
use Rattle.fv_engine_machine.proofs.Groups.{all_named, not_named}
use Rattle.fv_engine_machine.proofs.checking.checked.Goals as goal

pub returns-in-Ok-None : goal.returns-in-Ok-None
returns-in-Ok-None g c =
    let names = map (λ n. n.now) c.args.names.now in
    let same : c.groups.result.now ≡ c.args.book.now.groups = c.groups.ensures ∙ ap (λ (d : Declarations). d.groups) c.schema.ensures in
    let none : None ≡ each_some (group_number c.groups.result.now) names = rw c.in-Ok-None.field-0-is at c.in-Ok-None.ensures.numbers in
    inl (subst (λ (gs : Groups). unknown_group_in gs names ≡ true) same (not_named c.groups.result.now names none), refl)

pub returns-in-Ok : goal.returns-in-Ok
returns-in-Ok g c =
    let m = g.R.RuleSet.meaning in
    let ds = c.args.book.now in
    let b = bundle_view c.args.bundle.now in
    let names = map (λ n. n.now) c.args.names.now in
    let vs = map violation_view c.in-Ok.violations.items in
    let same : c.groups.result.now ≡ ds.groups = c.groups.ensures ∙ ap (λ (d : Declarations). d.groups) c.schema.ensures in
    let some : Some (indices c.in-Ok-Some.asked.items) ≡ each_some (group_number c.groups.result.now) names = rw c.in-Ok-Some.field-0-is at c.in-Ok-Some.ensures.numbers in
    let named = all_named c.groups.result.now names (indices c.in-Ok-Some.asked.items) some in
    let numbers : indices c.in-Ok-Some.asked.items ≡ numbers_of ds.groups names = named.1 ∙ ap (λ (gs : Groups). numbers_of gs names) same in
    let few : HasFewVisits ds b (indices c.in-Ok-Some.asked.items) = rw c.deref.ensures.value at c.in-Ok.ensures.few in
    let listing : IsListing m ds c.args.now b (indices c.in-Ok-Some.asked.items) vs = rw (c.deref.ensures.value, to_z-of_z w64 c.args.now c.ranges.now) at c.in-Ok.ensures.listing in
    let both = subst (λ (groups : List ℕ). HasFewVisits ds b groups × IsListing m ds c.args.now b groups vs) numbers (few, listing) in
    inr (inl (subst (λ (gs : Groups). unknown_group_in gs names ≡ false) same named.0, inr (vs, both.0, both.1, refl)))

pub returns : goal.returns
returns g c =
    let ds = c.args.book.now in
    let b = bundle_view c.args.bundle.now in
    let names = map (λ n. n.now) c.args.names.now in
    let same : c.groups.result.now ≡ ds.groups = c.groups.ensures ∙ ap (λ (d : Declarations). d.groups) c.schema.ensures in
    let some : Some (indices c.in-Ok-Some.asked.items) ≡ each_some (group_number c.groups.result.now) names = rw c.in-Ok-Some.field-0-is at c.in-Ok-Some.ensures.numbers in
    let named = all_named c.groups.result.now names (indices c.in-Ok-Some.asked.items) some in
    let numbers : indices c.in-Ok-Some.asked.items ≡ numbers_of ds.groups names = named.1 ∙ ap (λ (gs : Groups). numbers_of gs names) same in
    let many = rw c.deref.ensures.value at c.in-Err-validate.ensures.many in
    rw c.unjudged.ensures (not_checked g.R.RuleSet.meaning ds c.args.now b names c.in-Err-validate.fault (subst (λ (gs : Groups). unknown_group_in gs names ≡ false) same named.0)
    c.in-Err-validate.ensures.known c.in-Err-validate.ensures.no_field (λ is. subst (λ (groups : List ℕ). HasTooManyVisits ds b groups) numbers (many is)))
