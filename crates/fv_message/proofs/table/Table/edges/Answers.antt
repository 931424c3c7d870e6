use Rattle.fv_message.proofs.Cycles.{edges_more}
use Rattle.fv_message.proofs.table.Table.edges.Goals as goal

pub loop-key-preserved : goal.loop-key-preserved
loop-key-preserved c =
    edges_more c.args.self.now c.loop-key.edges.items c.push.new.self.items c.in_ok-edges_at.field-0 c.loop-key.key c.in_ok-push.ensures.items c.in_ok-edges_at.ensures c.loop-key.invariant
