use Rattle.std.proofs.Common.{◌≡◌, ◌∷◌, map, Some, string_bytes, sym, ◌∙◌, arith}
use Rattle.std.proofs.lemmas.List.{map-append}
use Rattle.serde_json.specs.View.{view as json_view, members_view}
use Rattle.fv_datum.specs.Members.{pairs, each_some}
use Rattle.fv_datum.proofs.Fronts.{with_front, front_more}
use Rattle.fv_declare_draft.specs.Cascades.{conversion_of}
use Rattle.fv_declare_draft.specs.DraftViews.{conversion_view}
use Rattle.fv_declare_draft.specs.declared.draft.Conversion.{Conversion}
use Rattle.fv_declare_draft.proofs.cascades.conversions_in.Goals as goal

pub loop-from-preserved : goal.loop-from-preserved
loop-from-preserved c =
    let l = c.loop-from in
    let made : Conversion = record { from = c.as_str-in-Some-as_str.result; to = c.in-Some-as_str.to } in
    let is : conversion_of (string_bytes c.in-Some.from.now, json_view c.in-Some.value.now) ≡ Some (conversion_view made) = grind (arith, c.as_str.ensures, c.in-Some-as_str.is, c.as_str-in-Some-as_str.ensures.value) in
    let moved = front_more conversion_of (map conversion_view l.conversions.items) (string_bytes c.in-Some.from.now, json_view c.in-Some.value.now) (pairs (members_view c.next.new.self)) (conversion_view made) is in
    let before : with_front (map conversion_view l.conversions.items) (each_some conversion_of (pairs (members_view ((c.in-Some.from.now, c.in-Some.value.now) ∷ c.next.new.self)))) ≡ each_some conversion_of (pairs (members_view c.args.members.now.entries)) = rw c.in-Some.ensures.steps at l.invariant in
    rw (c.in_ok-push-in-Some-as_str.ensures.items, map-append) (sym moved ∙ before)
