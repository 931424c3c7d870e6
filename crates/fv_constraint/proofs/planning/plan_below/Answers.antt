use Rattle.std.proofs.Common.{◌≡◌, ◌∙◌, map, Option, Some, None, option_map, slice_get, refl, sym, ap}
use Rattle.std.specs.Option.{unwrap_or}
use Rattle.fv_datum.proofs.Maps.{same_map}
use Rattle.fv_datum.proofs.Lookups.{seen_option}
use Rattle.fv_constraint.specs.Composed.{Planned}
use Rattle.fv_declare_definition.specs.Definitions as spec
use Rattle.fv_declare_definition.specs.Definitions.{Definitions}
use Rattle.fv_constraint.specs.Meanings.{Meant, meant_by, declared, meant_composing}
use Rattle.fv_declare_definition.specs.DefinitionViews.{composing_view, definition_entry, definition_view}
use Rattle.fv_constraint.specs.MeantView.{meant_view}
use Rattle.fv_constraint.specs.Effect.{effective, handed}
use Rattle.fv_constraint.specs.Numbered.{composing_at, handed_map}
use Rattle.fv_constraint.specs.PlannedViews.{planned_view}
use Rattle.fv_constraint.proofs.Handed.{handed_map_is}
use Rattle.fv_constraint.proofs.planning.plan_below.Goals as goal

unwrapped : {X Y : Type 0} (f : X → Y) (o : Option X) (d : X) → f (unwrap_or o d) ≡ unwrap_or (option_map f o) (f d)
unwrapped f None d = refl
unwrapped f (Some x) d = refl

pub returns-in_default : goal.returns-in_default
returns-in_default c =
    let ds : Definitions = map definition_entry c.args.definitions.now.entries in
    let p : Planned = planned_view c.args.above.now in
    c.nowhere.ensures ds ∙ ap (composing_at ds p) (sym (ap (λ m. slice_get (meant_composing (meant_view m)) c.args.edge) c.in_default.is))

pub returns-in_default-get : goal.returns-in_default-get
returns-in_default-get c =
    let ds : Definitions = map definition_entry c.args.definitions.now.entries in
    let p : Planned = planned_view c.args.above.now in
    let d = c.in-Declared.definition.now in
    let found = seen_option composing_view d.composing.items c.args.edge c.get.result (rw c.deref.ensures.value at c.get.ensures.lookup) in
    let none : slice_get (meant_composing p.meant) c.args.edge ≡ None =
    ap (λ m. slice_get (meant_composing (meant_view m)) c.args.edge) c.in-Declared.is ∙ sym found ∙ ap (option_map (λ x. composing_view x.now)) c.in_default-get.is in
    c.nowhere-in_default-get.ensures ds ∙ ap (composing_at ds p) (sym none)

pub returns : goal.returns
returns c =
    let ds : Definitions = map definition_entry c.args.definitions.now.entries in
    let p : Planned = planned_view c.args.above.now in
    let d = c.in-Declared.definition.now in
    let one : spec.Composing = composing_view c.in-Some.composing.now in
    let found = seen_option composing_view d.composing.items c.args.edge c.get.result (rw c.deref.ensures.value at c.get.ensures.lookup) in
    let is : p.meant ≡ declared (definition_view d) = ap meant_view c.in-Declared.is in
    let here : slice_get (meant_composing p.meant) c.args.edge ≡ Some one =
    ap (λ m. slice_get (meant_composing (meant_view m)) c.args.edge) c.in-Declared.is ∙ sym found ∙ ap (option_map (λ x. composing_view x.now)) c.in-Some.is in
    let name : c.as_str-name.result.now ≡ one.constraint = c.as_str-name.ensures.value in
    let meant : meant_view c.unwrap_or.result ≡ unwrap_or (meant_by ds one.constraint) p.meant =
    ap meant_view c.unwrap_or.ensures ∙ unwrapped meant_view c.meant_by.result c.args.above.now.meant ∙ ap (λ o. unwrap_or o p.meant) (c.meant_by.ensures ∙ ap (meant_by ds) name) in
    let above = effective (declared (definition_view d)) p.given in
    let given : c.in_ok-handed.field-0 ≡ handed_map one (effective p.meant p.given) =
    same_map (handed one above) c.in_ok-handed.field-0 (handed_map one above) c.in_ok-handed.ensures (handed_map_is one above) ∙ ap (λ (m : Meant). handed_map one (effective m p.given)) (sym is) in
    let same : ◌≡◌ {A = Planned}
    (record { constraint = c.as_str-name.result.now; meant = meant_view c.unwrap_or.result; own = option_map (λ t. t.now) c.text_of.result; given = c.in_ok-handed.field-0 })
    (composing_at ds p (Some one)) = rw (name, meant, c.text_of.ensures, given) refl in
    same ∙ ap (composing_at ds p) (sym here)
