use Rattle.std.proofs.Common.{◌≡◌, ◌++◌, ◌∷◌, [], ℕ, List, map, ap, subst, ◌∙◌, OnOk}
use Rattle.std.proofs.lemmas.List.{map-append}
use Rattle.std.specs.List.{flat_map}
use Rattle.fv_datum.specs.Data.{Data}
use Rattle.fv_datum.specs.View.{view}
use Rattle.fv_declare_schema.specs.PlacedView.{placed_view}
use Rattle.fv_extract.specs.FoundView.{found_view}
use Rattle.fv_extract.specs.Parts.{further}
use Rattle.fv_extract.specs.Views.{step_view, place_view}
use Rattle.fv_bundle.specs.Views.{object_view}
use Rattle.fv_local.specs.Told.{Told, picked, told_view, part_told, field_told}
use Rattle.fv_local.proofs.Inside.{told_inside}
use Rattle.fv_local.proofs.parts.add_field.Goals as goal

pub returns : goal.returns
returns g c =
    let m = g.R.RuleSet.meaning in
    let now = c.args.judge.now.moment in
    let us = picked (map placed_view c.args.judge.now.occurrences.now) c.args.judge.now.asked.now in
    let object = object_view c.args.object.now in
    let place = place_view c.args.place in
    let f : List ℕ × Data = (c.in-Some.field-0-0.now, view c.in-Some.datum.now) in
    let step = step_view c.in-Some-split_last.step.now in
    let above = map step_view c.in-Some-split_last.steps.now in
    let split : place.steps ≡ above ++ step ∷ [] = ap (map step_view) c.in-Some-split_last.ensures.cases.0 ∙ map-append step_view _ _ in
    let all : flat_map (part_told m now us place) (flat_map (further step) (map found_view c.deref.result.now)) ≡ field_told m now us object place =
    told_inside m now us object place f c.in-Some.ensures above step (map found_view c.deref.result.now) split (ap (map found_view) c.deref.ensures.value ∙ c.in_ok-parts.ensures.exact) in
    subst (λ (told : List Told). OnOk c.add_all_inside.result (map told_view c.add_all_inside.new.failures.items ≡ map told_view c.args.failures.now.items ++ told)) all c.add_all_inside.ensures
