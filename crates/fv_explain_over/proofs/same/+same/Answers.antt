use Rattle.std.proofs.Common.{◌≡◌, false, true, ap, sym, ◌∙◌, rules}
use Rattle.serde_json.specs.Find.{get_member}
use Rattle.serde_json.specs.View.{view, members_view}
use Rattle.serde_json.proofs.Views.{Entry}
use Rattle.fv_explain_over.specs.Same.{same, has_members}
use Rattle.fv_explain_over.proofs.Sames.{other_lengths, other_many, same_many, not_there, other_there, same_there}
use Rattle.fv_explain_over.proofs.same.+same.Goals as goal

pub have_same_items-returns-then-own-other : goal.have_same_items-returns-then-own-other
have_same_items-returns-then-own-other t c = other_lengths _ _ c.if-own-other.true

pub have_same_members-returns-then-len : goal.have_same_members-returns-then-len
have_same_members-returns-then-len t c = other_many _ _ (λ alike. absurd (c.if-len.true (c.len.ensures.len ∙ alike ∙ sym c.len-2.ensures.len)))

pub have_same_members-loop-name-init : goal.have_same_members-loop-name-init
have_same_members-loop-name-init t c =
    let start : c.into_iter-name-iterator.result ≡ c.args.own.now.entries = search rules in
    ap (λ es. has_members (members_view es) (members_view c.args.other.now.entries)) start
    ∙ same_many _ _ (sym c.len.ensures.len ∙ c.if-len.false ∙ c.len-2.ensures.len)

pub have_same_members-returns-in-None-member : goal.have_same_members-returns-in-None-member
have_same_members-returns-in-None-member t c =
    let ns = members_view c.args.other.now.entries in
    let e : Entry = (c.in-Some.name.now, c.in-Some.value.now) in
    not_there _ _ e ns _ c.in-Some.ensures.steps (c.in-None-member.ensures ∙ ap (λ n. get_member n ns) c.as_str.ensures.value) c.loop-name.invariant

pub have_same_members-returns-then-not-are_same : goal.have_same_members-returns-then-not-are_same
have_same_members-returns-then-not-are_same t c =
    let ns = members_view c.args.other.now.entries in
    let e : Entry = (c.in-Some.name.now, c.in-Some.value.now) in
    let other : same (view c.in-Some.value.now) (view c.in-Some-member.facing.now) ≡ false = sym c.are_same.ensures ∙ c.if-not-are_same.true in
    other_there _ _ e ns _ _ c.in-Some.ensures.steps (c.in-Some-member.ensures ∙ ap (λ n. get_member n ns) c.as_str.ensures.value) other c.loop-name.invariant

pub have_same_members-loop-name-preserved : goal.have_same_members-loop-name-preserved
have_same_members-loop-name-preserved t c =
    let ns = members_view c.args.other.now.entries in
    let e : Entry = (c.in-Some.name.now, c.in-Some.value.now) in
    let alike : same (view c.in-Some.value.now) (view c.in-Some-member.facing.now) ≡ true = sym c.are_same.ensures ∙ c.if-not-are_same.false in
    same_there _ _ e ns _ _ c.in-Some.ensures.steps (c.in-Some-member.ensures ∙ ap (λ n. get_member n ns) c.as_str.ensures.value) alike c.loop-name.invariant
