use Rattle.std.proofs.Common.{◌≡◌, ◌∷◌, ◌++◌, map, Some, string_bytes, sym, ◌∙◌, append_assoc, arith}
use Rattle.std.proofs.lemmas.Grind.{common_steps}
use Rattle.std.proofs.lemmas.List.{map-append}
use Rattle.serde_json.specs.View.{view as json_view, members_view}
use Rattle.fv_datum.specs.Members.{pairs, each_some}
use Rattle.fv_declare_draft.specs.Messages.{message_draft_of}
use Rattle.fv_declare_draft.specs.DraftViews.{message_view}
use Rattle.fv_declare_draft.specs.declared.draft.MessageDraft.{MessageDraft}
use Rattle.fv_datum.specs.EntryNames.{names_of}
use Rattle.fv_datum.proofs.Fronts.{with_front, front_more}
use Rattle.fv_datum.proofs.Sorted.{names-ascend}
use Rattle.fv_declare_draft.proofs.messages.messages_in.Goals as goal

pub loop-key-preserved : goal.loop-key-preserved
loop-key-preserved c =
    let l = c.loop-key in
    let found : MessageDraft = record { key = c.as_str-in-Some-as_str.result; template = c.in-Some-as_str.template } in
    let is : message_draft_of (string_bytes c.in-Some.key.now, json_view c.in-Some.value.now) ≡ Some (message_view found) = grind (arith, c.as_str.ensures, c.in-Some-as_str.is, c.as_str-in-Some-as_str.ensures.value) in
    let moved = front_more message_draft_of (map message_view l.messages.items) (string_bytes c.in-Some.key.now, json_view c.in-Some.value.now) (pairs (members_view c.next.new.self)) (message_view found) is in
    let before : with_front (map message_view l.messages.items) (each_some message_draft_of (pairs (members_view ((c.in-Some.key.now, c.in-Some.value.now) ∷ c.next.new.self)))) ≡ each_some message_draft_of (pairs (members_view c.args.members.now.entries)) = rw c.in-Some.ensures.steps at l.invariant.made in
    let names : map (λ x. x.key.now) l.messages.items ++ names_of ((c.in-Some.key.now, c.in-Some.value.now) ∷ c.next.new.self) ≡ names_of c.args.members.now.entries = rw c.in-Some.ensures.steps at l.invariant.names in
    record {
      names = rw (c.in_ok-push-in-Some-as_str.ensures.items, map-append, append_assoc, c.as_str-in-Some-as_str.ensures.value) names;
      made = rw (c.in_ok-push-in-Some-as_str.ensures.items, map-append) (sym moved ∙ before);
    }

pub returns-clause-ascend : goal.returns-clause-ascend
returns-clause-ascend c =
    let names : map (λ x. x.key.now) c.loop-key.messages.items ≡ names_of c.args.members.now.entries = grind (arith, common_steps, c.loop-key.invariant.names, c.in-None.ensures.steps) in
    rw names (names-ascend c.args.members.now.entries c.iter-key-items.ensures.ordered)
