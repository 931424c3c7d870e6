use Rattle.std.proofs.Common.{◌∙◌}
use Rattle.fv_engine_pending.proofs.Entries.{has_way}
use Rattle.fv_engine_pending.proofs.pending.Pending.has.Goals as goal

pub returns : goal.returns
returns c = c.contains_key.ensures ∙ has_way c.args.id.now c.args.self.now.records.entries
