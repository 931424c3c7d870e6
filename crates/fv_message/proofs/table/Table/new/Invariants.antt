use Rattle.std.proofs.Common.{◌≡◌, map, drop, fold}
use Rattle.fv_message.specs.Table.{with_message}
use Rattle.fv_message.specs.Views.{messages_view}
use Rattle.fv_message.proofs.Built.{row_message}
use Rattle.fv_message.proofs.table.Table.new.Given as goal

abbrev pub invariant-loop-name : goal.invariant-loop-name
invariant-loop-name l =
    fold with_message (messages_view l.texts) (map row_message (drop l.name-index l.name-items))
    ≡ fold with_message (messages_view l.initial.texts) (map row_message l.name-items)
