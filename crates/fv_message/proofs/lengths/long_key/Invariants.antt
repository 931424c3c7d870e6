use Rattle.std.proofs.Common.{◌≡◌, ◌<◌, ℕ, length, true, get_or}
use Rattle.fv_message.specs.Measured.{own_len}
use Rattle.fv_message.specs.Numbers.{text_at}
use Rattle.fv_message.specs.Reading.{is_template}
use Rattle.fv_message.proofs.lengths.long_key.Given as goal

abbrev pub invariant-loop-key : goal.invariant-loop-key
invariant-loop-key l =
    (length l.own.items ≡ l.key) × ((i : ℕ) → i < l.key → is_template (text_at l.messages i) ≡ true → get_or l.own.items i 0 ≡ own_len l.messages i)
