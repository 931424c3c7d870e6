use Rattle.std.proofs.Common.{◌+◌, ◌<◌, ◌≡◌, map, not, if◌then◌else◌, Some, None}
use Prim.Native.Nat.{◌^◌}
use Rattle.fv_first.specs.First.{first_from}
use Rattle.fv_message.specs.Judged.{fits}
use Rattle.fv_message.specs.Views.{message_view, messages_view}
use Rattle.fv_message.specs.Whereabouts.{first_long}
use Rattle.fv_message.proofs.user_messages.first_long.Given as goal

abbrev pub invariant-loop-number : goal.invariant-loop-number
invariant-loop-number l =
    (goal.iterator-loop-number).can_next l.text-iterator ×
    (goal.iterator-loop-number).is_finite l.text-iterator ×
    l.number + (goal.iterator-loop-number).remaining l.text-iterator < 2 ^ 64 ×
    (first_from (λ n m. if not (fits m.1) then Some n else None) l.number (map message_view l.text-iterator) ≡ first_long (messages_view l.user))
