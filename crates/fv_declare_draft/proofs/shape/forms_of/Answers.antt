use Rattle.std.proofs.Common.{◌≡◌, ◌∷◌, ◌++◌, map, Some, string_bytes, sym, ◌∙◌, append_assoc, arith}
use Rattle.std.proofs.lemmas.Grind.{common_steps}
use Rattle.std.proofs.lemmas.List.{map-append}
use Rattle.serde_json.specs.View.{view as json_view, members_view}
use Rattle.fv_datum.specs.Members.{pairs, each_some}
use Rattle.fv_declare_draft.specs.Drafts.{form_of}
use Rattle.fv_declare_draft.specs.DraftViews.{form_view}
use Rattle.fv_datum.specs.EntryNames.{names_of}
use Rattle.fv_datum.proofs.Fronts.{with_front, front_more}
use Rattle.fv_datum.proofs.Sorted.{names-ascend}
use Rattle.fv_declare_draft.proofs.shape.forms_of.Goals as goal

pub loop-name-preserved : goal.loop-name-preserved
loop-name-preserved c =
    let l = c.loop-name in
    let found = c.in-Some-2.form in
    let is : form_of (string_bytes c.in-Some.name.now, json_view c.in-Some.value.now) ≡ Some (form_view found) = grind (arith, c.in_ok-form_of.ensures.exact, c.in-Some-2.is, c.as_str.ensures.value) in
    let moved = front_more form_of (map form_view l.forms.items) (string_bytes c.in-Some.name.now, json_view c.in-Some.value.now) (pairs (members_view c.next.new.self)) (form_view found) is in
    let before : with_front (map form_view l.forms.items) (each_some form_of (pairs (members_view ((c.in-Some.name.now, c.in-Some.value.now) ∷ c.next.new.self)))) ≡ each_some form_of (pairs (members_view c.args.members.now.entries)) = rw c.in-Some.ensures.steps at l.invariant.made in
    let name : found.name.now ≡ string_bytes c.in-Some.name.now = grind (arith, c.in_ok-form_of.ensures.name, c.in-Some-2.is, c.as_str.ensures.value) in
    let names : map (λ x. x.name.now) l.forms.items ++ names_of ((c.in-Some.name.now, c.in-Some.value.now) ∷ c.next.new.self) ≡ names_of c.args.members.now.entries = rw c.in-Some.ensures.steps at l.invariant.names in
    record {
      names = rw (c.in_ok-push-in-Some-2.ensures.items, map-append, append_assoc, name) names;
      made = rw (c.in_ok-push-in-Some-2.ensures.items, map-append) (sym moved ∙ before);
    }

pub returns-clause-ascend : goal.returns-clause-ascend
returns-clause-ascend c =
    let names : map (λ x. x.name.now) c.loop-name.forms.items ≡ names_of c.args.members.now.entries = grind (arith, common_steps, c.loop-name.invariant.names, c.in-None.ensures.steps) in
    rw names (names-ascend c.args.members.now.entries c.iter-name-items.ensures.ordered)
