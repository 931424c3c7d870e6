use Rattle.std.proofs.Common.{◌+◌, ◌<◌, ◌≡◌, map}
use Prim.Native.Nat.{◌^◌}
use Rattle.fv_first.specs.First.{first_from}
use Rattle.fv_message.specs.Judging.{misspelt_at, misspelt_in}
use Rattle.fv_message.specs.Views.{message_view, messages_view}
use Rattle.fv_message.proofs.user_messages.misspelt_in.Given as goal

abbrev pub invariant-loop-number : goal.invariant-loop-number
invariant-loop-number l =
    (goal.iterator-loop-number).can_next l.key-iterator ×
    (goal.iterator-loop-number).is_finite l.key-iterator ×
    l.number + (goal.iterator-loop-number).remaining l.key-iterator < 2 ^ 64 ×
    (first_from misspelt_at l.number (map message_view l.key-iterator) ≡ misspelt_in (messages_view l.user))
