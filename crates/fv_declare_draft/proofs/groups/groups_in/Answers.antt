use Rattle.std.proofs.Common.{◌≡◌, ◌∷◌, ◌++◌, map, Some, string_bytes, sym, ◌∙◌, append_assoc, arith}
use Rattle.std.proofs.lemmas.Grind.{common_steps}
use Rattle.std.proofs.lemmas.List.{map-append}
use Rattle.serde_json.specs.View.{view as json_view, members_view}
use Rattle.fv_datum.specs.Members.{pairs, each_some}
use Rattle.fv_declare_draft.specs.Groups.{group_of}
use Rattle.fv_declare_draft.specs.DraftViews.{group_view}
use Rattle.fv_datum.specs.EntryNames.{names_of}
use Rattle.fv_datum.proofs.Fronts.{with_front, front_more}
use Rattle.fv_datum.proofs.Sorted.{names-ascend}
use Rattle.fv_declare_draft.proofs.groups.groups_in.Goals as goal

pub loop-name-preserved : goal.loop-name-preserved
loop-name-preserved c =
    let l = c.loop-name in
    let found = c.in-Some-2.group in
    let is : group_of (string_bytes c.in-Some.name.now, json_view c.in-Some.value.now) ≡ Some (group_view found) = grind (arith, c.in_ok-group_of.ensures.exact, c.in-Some-2.is, c.as_str.ensures.value) in
    let moved = front_more group_of (map group_view l.groups.items) (string_bytes c.in-Some.name.now, json_view c.in-Some.value.now) (pairs (members_view c.next.new.self)) (group_view found) is in
    let before : with_front (map group_view l.groups.items) (each_some group_of (pairs (members_view ((c.in-Some.name.now, c.in-Some.value.now) ∷ c.next.new.self)))) ≡ each_some group_of (pairs (members_view c.args.members.now.entries)) = rw c.in-Some.ensures.steps at l.invariant.made in
    let name : found.name.now ≡ string_bytes c.in-Some.name.now = grind (arith, c.in_ok-group_of.ensures.name, c.in-Some-2.is, c.as_str.ensures.value) in
    let names : map (λ x. x.name.now) l.groups.items ++ names_of ((c.in-Some.name.now, c.in-Some.value.now) ∷ c.next.new.self) ≡ names_of c.args.members.now.entries = rw c.in-Some.ensures.steps at l.invariant.names in
    record {
      names = rw (c.in_ok-push-in-Some-2.ensures.items, map-append, append_assoc, name) names;
      made = rw (c.in_ok-push-in-Some-2.ensures.items, map-append) (sym moved ∙ before);
    }

pub returns-clause-ascend : goal.returns-clause-ascend
returns-clause-ascend c =
    let names : map (λ x. x.name.now) c.loop-name.groups.items ≡ names_of c.args.members.now.entries = grind (arith, common_steps, c.loop-name.invariant.names, c.in-None.ensures.steps) in
    rw names (names-ascend c.args.members.now.entries c.iter-name-items.ensures.ordered)
