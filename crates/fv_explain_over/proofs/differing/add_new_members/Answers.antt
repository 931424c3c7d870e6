use Rattle.std.proofs.Common.{◌≡◌, [], not, string_bytes, ap, sym, ◌∙◌, rules}
use Rattle.serde_json.specs.Find.{get_member}
use Rattle.serde_json.specs.View.{view, members_view}
use Rattle.serde_json.proofs.Views.{Entry}
use Rattle.fv_explain_over.specs.Adding.{NewChange, found_view}
use Rattle.fv_explain_over.proofs.MemberLemmas.{member_more, member_skipped, new_added, no_member, none_seen, not_new}
use Rattle.fv_explain_over.proofs.differing.add_new_members.Goals as goal

pub loop-name-preserved-in_ok-add : goal.loop-name-preserved-in_ok-add
loop-name-preserved-in_ok-add c =
    let ms = members_view c.args.old.now.entries in
    let e : Entry = (c.in-Some.name.now, c.in-Some.field-0-1.now) in
    let none = none_seen (λ v. view v.now) c.member.result (c.is_none.ensures ∙ ap not c.if-is_none.true) ∙ c.member.ensures ∙ ap (λ n. get_member n ms) (c.as_str.ensures.value ∙ sym c.as_str-then-is_none.ensures.value) in
    λ f more. c.loop-name.invariant f
    (member_more (found_view c.loop-name.found) (found_view c.add.new.found) f (NewChange c.args.at.now ms) c.loop-name.name-iterator c.next.new.self e c.in-Some.ensures.steps
    (new_added (found_view c.loop-name.found) (found_view c.add.new.found) c.args.at.now (string_bytes c.in_ok-inside.field-0) c.as_str-then-is_none.result.now (string_bytes c.in-Some.name.now) ms (view c.in-Some.field-0-1.now)
    c.in_ok-inside.ensures c.as_str-then-is_none.ensures.value none c.in_ok-add.ensures)
    more)

pub loop-name-preserved : goal.loop-name-preserved
loop-name-preserved c =
    let ms = members_view c.args.old.now.entries in
    let e : Entry = (c.in-Some.name.now, c.in-Some.field-0-1.now) in
    λ f more. c.loop-name.invariant f
    (member_skipped (found_view c.loop-name.found) f (NewChange c.args.at.now ms) c.loop-name.name-iterator c.next.new.self e c.in-Some.ensures.steps
    (λ p x r. not_new (λ v. view v.now) c.member.result c.as_str.result.now (string_bytes c.in-Some.name.now) ms (c.is_none.ensures ∙ ap not c.if-is_none.false) c.member.ensures c.as_str.ensures.value r.0)
    more)

pub returns : goal.returns
returns c =
    let end : c.loop-name.name-iterator ≡ [] = search rules in
    c.loop-name.invariant (found_view c.loop-name.found)
    (no_member (found_view c.loop-name.found) (NewChange c.args.at.now (members_view c.args.old.now.entries)) c.loop-name.name-iterator end)
