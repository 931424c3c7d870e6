use Rattle.std.proofs.Common.{◌≡◌, map, take}
use Rattle.fv_store_tables.specs.Olds.{old_view, shown_old}
use Rattle.fv_store_tables.specs.Stored.{front}
use Rattle.fv_store_tables.proofs.migrating.olds_in.Given as goal

abbrev pub invariant-loop-row : goal.invariant-loop-row
invariant-loop-row l = map front (take l.row-index l.rows) ≡ map (λ o. shown_old (old_view o)) l.olds.items
