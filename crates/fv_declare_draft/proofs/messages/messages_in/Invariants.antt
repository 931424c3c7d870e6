use Rattle.std.proofs.Common.{◌≡◌, ◌++◌, map}
use Rattle.serde_json.specs.View.{members_view}
use Rattle.fv_datum.specs.Members.{pairs, each_some}
use Rattle.fv_declare_draft.specs.Messages.{message_draft_of}
use Rattle.fv_declare_draft.specs.DraftViews.{message_view}
use Rattle.fv_datum.specs.EntryNames.{names_of}
use Rattle.fv_datum.proofs.Fronts.{with_front}
use Rattle.fv_declare_draft.proofs.messages.messages_in.Given as goal

abbrev pub invariant-loop-key : goal.invariant-loop-key
invariant-loop-key l = record {
  names : map (λ x. x.key.now) l.messages.items ++ names_of l.key-iterator ≡ names_of l.members.entries;
  made : with_front (map message_view l.messages.items) (each_some message_draft_of (pairs (members_view l.key-iterator))) ≡ each_some message_draft_of (pairs (members_view l.members.entries));
}
