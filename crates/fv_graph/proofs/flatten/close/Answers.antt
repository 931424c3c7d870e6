use Rattle.std.proofs.Common.{arith, ◌-◌}
use Rattle.fv_graph.proofs.Growth.{set_closed}
use Rattle.fv_graph.proofs.flatten.close.Goals as goal

pub returns : goal.returns
returns g c =
    set_closed c.args.spots.now.items c.args.at (c.len.result - c.args.at - 1) c.index_mut.result.now c.requires c.index_mut.ensures.value (omega (arith, c.len.ensures))
