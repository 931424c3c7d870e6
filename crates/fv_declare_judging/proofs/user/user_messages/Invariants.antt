use Rattle.std.proofs.Common.{◌≡◌, ◌++◌, map, drop}
use Rattle.fv_datum.specs.EntryNames.{names_of}
use Rattle.fv_declare_draft.specs.DraftViews.{message_view}
use Rattle.fv_message.specs.Views.{messages_view}
use Rattle.fv_declare_judging.proofs.user.user_messages.Given as goal

abbrev pub invariant-loop-message : goal.invariant-loop-message
invariant-loop-message l = record {
  names : names_of l.user.entries ++ map (λ m. m.key.now) (drop l.message-index l.messages) ≡ map (λ m. m.key.now) l.messages;
  made : messages_view l.user ++ map message_view (drop l.message-index l.messages) ≡ map message_view l.messages;
}
