use Rattle.std.proofs.Common.{◌≡◌, ℕ, zero, suc, ◌<◌, List, [], ◌∷◌, length, get_or, string_bytes, refl, ap, arith}
use Rattle.fv_declare_draft.specs.DraftViews.{message_view}
use Rattle.fv_declare_draft.specs.declared.draft.MessageDraft.{MessageDraft}
use Rattle.fv_message.specs.Views as messages
use Rattle.fv_datum.proofs.Inserted.{insert_names, insert_entries}
use Rattle.fv_declare_judging.proofs.user.user_messages.Goals as goal

-- what stands in a list doesn't go by what would stand behind it
same_at : {X : Type 0} (xs : List X) (i : ℕ) (d e : X) → i < length xs → get_or xs i d ≡ get_or xs i e
same_at [] i d e h = absurd (omega arith)
same_at (x ∷ xs) zero d e h = refl
same_at (x ∷ xs) (suc i) d e h = same_at xs i d e (omega arith)

pub loop-message-preserved : goal.loop-message-preserved
loop-message-preserved c =
    let l = c.loop-message in
    let ms = c.args.messages.now in
    let nobody : MessageDraft = record { key = record { ref_ptr = (0, 0); now = [] }; template = record { ref_ptr = (0, 0); now = [] } } in
    let m : MessageDraft = get_or ms l.message-index nobody in
    let h : l.message-index < length ms = omega arith in
    let at : m ≡ get_or ms l.message-index m = same_at ms l.message-index nobody m h in
    let is : messages.message_view (c.in_ok-key.key, c.in_ok-key.template) ≡ message_view m = c.in_ok-key.ensures in
    let key : string_bytes c.in_ok-key.key ≡ m.key.now = ap (λ (e : List ℕ × List ℕ). e.0) is in
    record {
      names = insert_names (λ x. x.key.now) ms l.message-index m l.user.entries c.insert.new.self.entries c.in_ok-key.key c.in_ok-key.template h at c.requires l.invariant.names key c.in_ok-insert.ensures.entries;
      made = insert_entries (λ x. x.key.now) ms l.message-index m l.user.entries c.insert.new.self.entries c.in_ok-key.key c.in_ok-key.template h at c.requires l.invariant.names key c.in_ok-insert.ensures.entries
          messages.message_view message_view is l.invariant.made;
    }
