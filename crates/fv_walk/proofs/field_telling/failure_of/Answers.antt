use Rattle.std.proofs.Common.{◌≡◌, ◌∷◌, [], ℕ, List, map, slice_get, sym, ap, ap₂, subst, ◌∙◌}
use Rattle.std.specs.Option.{option_map_or}
use Rattle.fv_datum.specs.Data.{Data}
use Rattle.fv_datum.specs.View.{view}
use Rattle.fv_extract.specs.Views.{part_view, place_view}
use Rattle.fv_local.specs.FailureView.{IsFoundIn, failure_view}
use Rattle.fv_local.specs.declared.failure.Spot.{Spot}
use Rattle.fv_local.specs.declared.failure.Spot.TheVariants as spot
use Rattle.fv_bundle.specs.Views.{object_view}
use Rattle.fv_path.specs.Nodes.{PathNode, field}
use Rattle.fv_walk.proofs.Tellings.{part_there}
use Rattle.fv_local.specs.Paths.{nodes_of}
use Rattle.fv_walk_traces.specs.Violations.{Violation}
use Rattle.fv_walk.proofs.Paths.{field_first}
use Rattle.fv_walk.specs.Ranks.{violation_in}
use Rattle.fv_walk.proofs.field_telling.failure_of.Goals as goal

pub push_spot-requires-clause-named : goal.push_spot-requires-clause-named
push_spot-requires-clause-named c = c.requires.sound.named c.in-Part.place.field (c.in-Some.name.now, view c.in-Some.field-0-1.now) (sym c.in-Some.ensures)

pub push_spot-requires-clause-leads : goal.push_spot-requires-clause-leads
push_spot-requires-clause-leads c =
    let part = c.in-Part in
    let place = place_view part.place in
    let found = subst (IsFoundIn (object_view c.args.object.now)) part.is c.requires.found in
    rw c.deref.ensures.value (part_there (object_view c.args.object.now) place (map part_view part.locus.items, view part.datum.now) c.requires.sound found).led

pub push_spot-requires-clause-room : goal.push_spot-requires-clause-room
push_spot-requires-clause-room c =
    field_first c.new-path.result c.new-path.ensures c.in-Some.name.now (c.requires.sound.named c.in-Part.place.field (c.in-Some.name.now, view c.in-Some.field-0-1.now) (sym c.in-Some.ensures))

pub returns : goal.returns
returns c =
    let part = c.in-Part in
    let place = place_view part.place in
    let locus = map part_view part.locus.items in
    let object = object_view c.args.object.now in
    let found = subst (IsFoundIn object) part.is c.requires.found in
    let there = part_there object place (locus, view part.datum.now) c.requires.sound found in
    let name : c.in-Some.name.now ≡ option_map_or (λ (f : List ℕ × Data). f.0) (slice_get object.fields place.field) [] = ap (λ o. option_map_or (λ (f : List ℕ × Data). f.0) o []) c.in-Some.ensures in
    let path = c.path.view_is ∙ (rw (c.new-path.ensures, c.deref.ensures.value) at c.in_ok-push_spot.ensures.ok) ∙ ap (λ (n : List ℕ). field n ∷ nodes_of place.steps locus) name in
    let told : ◌≡◌ {A = Violation} _ (violation_in object (failure_view (record { spot = spot.Part part.place part.locus part.datum; number = c.args.failure.now.number }))) =
    ap₂ (λ (p : List PathNode) (d : Data). record { path = p; node = c.args.failure.now.number; value = d }) path (c.in_ok-copy.ensures ∙ sym there.datum) in
    told ∙ ap (λ (s : Spot). violation_in object (failure_view (record { spot = s; number = c.args.failure.now.number }))) (sym part.is)
