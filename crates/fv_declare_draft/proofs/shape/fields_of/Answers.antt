use Rattle.std.proofs.Common.{◌≡◌, ◌∷◌, ◌++◌, map, Some, string_bytes, sym, ◌∙◌, append_assoc, arith}
use Rattle.std.proofs.lemmas.Grind.{common_steps}
use Rattle.std.proofs.lemmas.List.{map-append}
use Rattle.serde_json.specs.View.{view as json_view, members_view}
use Rattle.fv_datum.specs.Members.{pairs, each_some}
use Rattle.fv_declare_draft.specs.Drafts.{field_of}
use Rattle.fv_declare_draft.specs.DraftViews.{field_view}
use Rattle.fv_datum.specs.EntryNames.{names_of}
use Rattle.fv_datum.proofs.Fronts.{with_front, front_more}
use Rattle.fv_datum.proofs.Sorted.{names-ascend}
use Rattle.fv_declare_draft.proofs.shape.fields_of.Goals as goal

pub loop-name-preserved : goal.loop-name-preserved
loop-name-preserved c =
    let l = c.loop-name in
    let found = c.in-Some-2.field in
    let is : field_of (string_bytes c.in-Some.name.now, json_view c.in-Some.value.now) ≡ Some (field_view found) = grind (arith, c.in_ok-field_of.ensures.exact, c.in-Some-2.is, c.as_str.ensures.value) in
    let moved = front_more field_of (map field_view l.fields.items) (string_bytes c.in-Some.name.now, json_view c.in-Some.value.now) (pairs (members_view c.next.new.self)) (field_view found) is in
    let before : with_front (map field_view l.fields.items) (each_some field_of (pairs (members_view ((c.in-Some.name.now, c.in-Some.value.now) ∷ c.next.new.self)))) ≡ each_some field_of (pairs (members_view c.args.members.now.entries)) = rw c.in-Some.ensures.steps at l.invariant.made in
    let name : found.name.now ≡ string_bytes c.in-Some.name.now = grind (arith, c.in_ok-field_of.ensures.name, c.in-Some-2.is, c.as_str.ensures.value) in
    let names : map (λ x. x.name.now) l.fields.items ++ names_of ((c.in-Some.name.now, c.in-Some.value.now) ∷ c.next.new.self) ≡ names_of c.args.members.now.entries = rw c.in-Some.ensures.steps at l.invariant.names in
    record {
      names = rw (c.in_ok-push-in-Some-2.ensures.items, map-append, append_assoc, name) names;
      made = rw (c.in_ok-push-in-Some-2.ensures.items, map-append) (sym moved ∙ before);
    }

pub returns-clause-ascend : goal.returns-clause-ascend
returns-clause-ascend c =
    let names : map (λ x. x.name.now) c.loop-name.fields.items ≡ names_of c.args.members.now.entries = grind (arith, common_steps, c.loop-name.invariant.names, c.in-None.ensures.steps) in
    rw names (names-ascend c.args.members.now.entries c.iter-name-items.ensures.ordered)
