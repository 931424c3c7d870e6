use Rattle.std.proofs.Common.{◌≡◌, [], option_map, string_bytes, ap, sym, ◌∙◌, rules}
use Rattle.serde_json.specs.Find.{get_member}
use Rattle.serde_json.specs.View.{view, members_view}
use Rattle.serde_json.proofs.Views.{Entry}
use Rattle.fv_explain_over.specs.Adding.{OldChange, found_view}
use Rattle.fv_explain_over.specs.Changes.{LevelsChange}
use Rattle.fv_explain_over.proofs.MemberLemmas.{level, member_more, members_added, no_member, old_added, on_ok}
use Rattle.fv_explain_over.proofs.differing.+add.Goals as goal

pub add_inside-returns-in-Some-Some : goal.add_inside-returns-in-Some-Some
add_inside-returns-in-Some-Some t c =
    level c.add_members.result (found_view c.args.found.now) (found_view c.add_members.new.found) (string_bytes c.args.at) c.as_str.result.now (view c.args.old.now) (view c.args.new.now) c.args.levels
    (members_view c.in-Some-Some.old.now.entries) (members_view c.in-Some-Some.new.now.entries) c.as_str.ensures.value c.if-levels-eq0.false c.in-Some-Some.ensures c.in-Some-Some.ensures' c.add_members.ensures

pub add_members-loop-name-preserved : goal.add_members-loop-name-preserved
add_members-loop-name-preserved t c =
    let ns = members_view c.args.new.now.entries in
    let e : Entry = (c.in-Some.name.now, c.in-Some.value.now) in
    let found = c.member.ensures ∙ ap (λ n. get_member n ns) (c.as_str-in-loop-name.ensures.value ∙ sym c.as_str.ensures.value) in
    λ f more. c.loop-name.invariant f
    (member_more (found_view c.loop-name.found) (found_view c.add_member.new.found) f (OldChange (LevelsChange c.args.levels) c.args.at.now ns) c.loop-name.name-iterator c.next.new.self e c.in-Some.ensures.steps
    (old_added (found_view c.loop-name.found) (found_view c.add_member.new.found) (LevelsChange c.args.levels) c.args.at.now (string_bytes c.in_ok-place.place) c.as_str.result.now (string_bytes c.in-Some.name.now) ns (view c.in-Some.value.now)
    (option_map (λ v. view v.now) c.member.result) c.in_ok-place.ensures c.as_str.ensures.value found c.in_ok-add_member.ensures)
    more)

pub add_members-returns : goal.add_members-returns
add_members-returns t c =
    let end : c.loop-name.name-iterator ≡ [] = search rules in
    let ns = members_view c.args.new.now.entries in
    let old = c.loop-name.invariant (found_view c.loop-name.found) (no_member (found_view c.loop-name.found) (OldChange (LevelsChange c.args.levels) c.args.at.now ns) c.loop-name.name-iterator end) in
    on_ok c.add_new_members.result
    (λ new. members_added (found_view c.args.found.now) (found_view c.loop-name.found) (found_view c.add_new_members.new.found) (LevelsChange c.args.levels) c.args.at.now c.args.old.now.entries ns c.iter-name-items.ensures.ordered old new)
    c.add_new_members.ensures
