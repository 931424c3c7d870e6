use Rattle.std.proofs.Common.{◌≡◌, ◌∷◌, map, Some, string_bytes, sym, ◌∙◌, arith}
use Rattle.std.proofs.lemmas.List.{map-append}
use Rattle.serde_json.specs.View.{view as json_view, members_view}
use Rattle.fv_datum.specs.Members.{pairs, each_some}
use Rattle.fv_model.specs.Draft.{object_draft}
use Rattle.fv_model.specs.Views.{part_view}
use Rattle.fv_datum.proofs.Fronts.{with_front, front_more}
use Rattle.fv_model.proofs.draft.parts_of.Goals as goal

pub loop-name-preserved : goal.loop-name-preserved
loop-name-preserved c =
    let l = c.loop-name in
    let part = c.in-Some-part_of.part in
    let is : object_draft (string_bytes c.in-Some.name.now, json_view c.in-Some.value.now) ≡ Some (part_view part) = grind (arith, c.part_of.ensures, c.in-Some-part_of.is, c.as_str.ensures.value) in
    let moved = front_more object_draft (map part_view l.parts.items) (string_bytes c.in-Some.name.now, json_view c.in-Some.value.now) (pairs (members_view c.next.new.self)) (part_view part) is in
    let before : with_front (map part_view l.parts.items) (each_some object_draft (pairs (members_view ((c.in-Some.name.now, c.in-Some.value.now) ∷ c.next.new.self)))) ≡ each_some object_draft (pairs (members_view c.args.objects.now.entries)) = rw c.in-Some.ensures.steps at l.invariant in
    rw (c.in_ok-push-in-Some-part_of.ensures.items, map-append) (sym moved ∙ before)
