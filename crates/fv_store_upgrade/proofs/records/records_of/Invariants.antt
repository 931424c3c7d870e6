use Rattle.std.proofs.Common.{◌≡◌}
use Rattle.std.specs.Vec.Iter.{into_iter_items}
use Rattle.fv_datum.specs.Members.{each_some}
use Rattle.fv_datum.proofs.Fronts.{with_front}
use Rattle.fv_store_tables.specs.Olds.{olds_view}
use Rattle.fv_store_upgrade.specs.Steps.{named_in, news_view}
use Rattle.fv_store_upgrade.proofs.records.records_of.Given as goal

abbrev pub invariant-loop-old : goal.invariant-loop-old
invariant-loop-old l = with_front (news_view l.records.items) (each_some named_in (olds_view (into_iter_items l.old-iterator))) ≡ each_some named_in (olds_view l.fn.olds.items)
