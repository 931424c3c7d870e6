use Rattle.std.proofs.Common.{None, map, option_map, unwrap_or, ap, ◌∙◌}
use Rattle.fv_engine_pending.specs.Ways.{way_entry}
use Rattle.fv_engine_pending.proofs.Entries.{take_way, stands_way}
use Rattle.fv_store.specs.Stored.{stored_view}
use Rattle.fv_engine_pending.proofs.pending.Pending.take.Goals as goal

pub returns-in-Some-clause-value : goal.returns-in-Some-clause-value
returns-in-Some-clause-value c = ap (λ o. option_map stored_view (unwrap_or o None)) c.in-Some.ensures.value ∙ stands_way c.args.id.now c.args.self.now.records.entries

pub returns-in-Some-clause-others : goal.returns-in-Some-clause-others
returns-in-Some-clause-others c = ap (map way_entry) c.in-Some.ensures.entries ∙ take_way c.args.id.now c.args.self.now.records.entries

pub returns-in-None-clause-value : goal.returns-in-None-clause-value
returns-in-None-clause-value c = ap (λ o. option_map stored_view (unwrap_or o None)) c.in-None.ensures.value ∙ stands_way c.args.id.now c.args.self.now.records.entries

pub returns-in-None-clause-others : goal.returns-in-None-clause-others
returns-in-None-clause-others c = ap (map way_entry) c.in-None.ensures.entries ∙ take_way c.args.id.now c.args.self.now.records.entries
