use Rattle.std.proofs.Common.{◌≤◌}
use Rattle.fv_store_tables.proofs.updating.most_differ.Given as goal

abbrev pub invariant-loop-at : goal.invariant-loop-at
invariant-loop-at l = l.same ≤ l.at
