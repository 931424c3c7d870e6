use Rattle.std.proofs.Common.{map, ap, ◌∙◌}
use Rattle.fv_engine_pending.specs.Ways.{way_entry}
use Rattle.fv_engine_pending.proofs.Entries.{leave_way}
use Rattle.fv_engine_pending.proofs.pending.Pending.leave.Goals as goal

pub returns : goal.returns
returns c = ap (map way_entry) c.in_ok-insert.ensures.entries ∙ leave_way c.args.self.now.records.entries c.args.id c.args.stored
