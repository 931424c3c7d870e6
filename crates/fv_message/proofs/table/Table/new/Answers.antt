use Rattle.std.proofs.Common.{Bor, List, ℕ, [], arith, map, fold}
use Rattle.fv_message.specs.Table.{with_message}
use Rattle.fv_message.specs.Views.{messages_view}
use Rattle.fv_message.proofs.Built.{row_message, row_more, rows_all}
use Rattle.fv_message.proofs.table.Table.new.Goals as goal

pub loop-name-preserved : goal.loop-name-preserved
loop-name-preserved c =
    let none : Bor (List ℕ) = record { ref_ptr = (0, 0); now = [] } in
    row_more c.built_in_texts-name-items.result.now (messages_view c.loop-name.texts) (messages_view c.add_built_in.new.texts)
    (fold with_message (messages_view c.args.user) (map row_message c.built_in_texts-name-items.result.now)) c.loop-name.name-index (none, none)
    (omega arith) c.loop-name.invariant c.in_ok-add_built_in.ensures

pub returns : goal.returns
returns c =
    rows_all c.built_in_texts-name-items.result.now (messages_view c.loop-name.texts) (messages_view c.args.user) c.loop-name.name-index c.loop-name-test.false
    c.built_in_texts-name-items.ensures c.loop-name.invariant
