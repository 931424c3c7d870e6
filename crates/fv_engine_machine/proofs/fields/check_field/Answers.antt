use Rattle.std.proofs.Common.{◌≡◌, map, refl, sym, subst, ap, ◌∙◌}
use Rattle.std.proofs.lemmas.Int.{to_z-of_z}
use mir.Syntax.{w64}
use Rattle.fv_store.specs.Stock.{stock_state as state}
use Rattle.fv_declare_schema.specs.Declarations.{Declarations}
use Rattle.fv_bundle.specs.Views.{object_view, bundle_view}
use Rattle.fv_bundle.specs.WellTyped.{IsWellTyped}
use Rattle.fv_store.specs.Stored.{stored_view}
use Rattle.fv_bundle.specs.Types.{Declared}
use Rattle.fv_bundle.specs.TypesView.{types_view}
use Rattle.fv_engine_command.specs.Commands.{check_field}
use Rattle.fv_engine_machine.specs.Machines.{contents}
use Rattle.fv_engine_machine.proofs.Becoming.{unchanged, not_found, fails_so}
use Rattle.fv_engine_machine.proofs.OneField.{field_none, field_some, found_typed}
use Rattle.fv_engine_machine.proofs.fields.check_field.Goals as goal

pub returns-in-Ok-None-clause-becomes : goal.returns-in-Ok-None-clause-becomes
returns-in-Ok-None-clause-becomes g c =
    let ds = c.args.book.now in
    let names = map (λ n. n.now) c.args.names.now in
    let same : ds.types ≡ types_view c.types.result.now = sym (c.types.ensures ∙ ap (λ (d : Declarations). d.types) c.schema.ensures) in
    let found = rw c.in-Ok-None.field-0-is at c.in-Ok-None.ensures.found in
    unchanged (state g.S.Store) ds _ _ c.in-Ok-None.ensures.frame (λ bytes m holds. c.in-Ok-None.ensures.untouched (contents bytes ds m) holds) _
    (λ clean bytes m holds stay. field_none g.R.RuleSet.meaning c.args.now c.args.at.now.id.now c.args.at.now.object.now c.args.at.now.field.now names _ _ stay (c.in-Ok-None.ensures.frame.was_open clean (c.in-Ok-None.ensures.open clean))
    (sym (found clean (contents bytes ds m) same holds)))
    (λ bytes m holds. c.in-Ok-None.ensures.stays (contents bytes ds m) holds)

pub returns-in-Ok-Some-clause-becomes : goal.returns-in-Ok-Some-clause-becomes
returns-in-Ok-Some-clause-becomes g c =
    let ds = c.args.book.now in
    let names = map (λ n. n.now) c.args.names.now in
    let same : ds.types ≡ types_view c.types.result.now = sym (c.types.ensures ∙ ap (λ (d : Declarations). d.types) c.schema.ensures) in
    let found = rw c.in-Ok-Some.field-0-is at c.in-Ok-Some.ensures.found in
    let told = rw (c.object.ensures, to_z-of_z w64 c.args.now c.ranges.now) at c.object_checked.ensures in
    unchanged (state g.S.Store) ds _ _ c.in-Ok-Some.ensures.frame (λ bytes m holds. c.in-Ok-Some.ensures.untouched (contents bytes ds m) holds) _
    (λ clean bytes m holds stay. field_some g.R.RuleSet.meaning c.args.now c.args.at.now.id.now c.args.at.now.object.now c.args.at.now.field.now names _ _ stay (c.in-Ok-Some.ensures.frame.was_open clean (c.in-Ok-Some.ensures.open clean)) (stored_view c.in-Ok-Some.stored)
    (sym (found clean (contents bytes ds m) same holds)) _ told)
    (λ bytes m holds. c.in-Ok-Some.ensures.stays (contents bytes ds m) holds)

pub returns-in-Err-clause-becomes : goal.returns-in-Err-clause-becomes
returns-in-Err-clause-becomes g c =
    let ds = c.args.book.now in
    let names = map (λ n. n.now) c.args.names.now in
    let same : ds.types ≡ types_view c.types.result.now = sym (c.types.ensures ∙ ap (λ (d : Declarations). d.types) c.schema.ensures) in
    unchanged (state g.S.Store) ds _ _ c.in-Err.ensures.frame (λ bytes m holds. c.in-Err.ensures.untouched (contents bytes ds m) holds) _ (λ clean bytes m holds stay. not_found g.R.RuleSet.meaning c.args.now (check_field c.args.at.now.id.now c.args.at.now.object.now c.args.at.now.field.now names) _ _ stay refl (refl, refl, refl) c.undone.result
    (fails_so c.in-Err.fault c.undone.result _ c.undone.ensures.store c.undone.ensures.memory (λ is. c.in-Err.ensures.cause clean is (contents bytes ds m) same holds)))
    (λ bytes m holds. c.in-Err.ensures.stays (contents bytes ds m) holds)

pub object_checked-requires-clause-typed : goal.object_checked-requires-clause-typed
object_checked-requires-clause-typed g c =
    let same : types_view c.types.result.now ≡ c.args.book.now.types = c.types.ensures ∙ ap (λ (d : Declarations). d.types) c.schema.ensures in
    let typed = subst (λ (ts : Declared). IsWellTyped ts (bundle_view c.in-Ok-Some.stored.bundle)) same (rw c.in-Ok-Some.field-0-is at c.in-Ok-Some.ensures.typed) in
    found_typed (λ o. object_view o.now) c.object.result c.args.book.now.types (bundle_view c.in-Ok-Some.stored.bundle) c.args.at.now.object.now c.object.ensures typed c.objects_are_of_their_types.ensures
