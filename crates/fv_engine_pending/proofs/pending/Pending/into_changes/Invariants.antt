use Rattle.std.proofs.Common.{◌≡◌, ◌++◌, map}
use Rattle.fv_engine_pending.specs.Altering.{altered}
use Rattle.fv_engine_pending.proofs.Changing.{leaves_kept}
use Rattle.fv_engine_pending.proofs.pending.Pending.into_changes.Given as goal

abbrev pub invariant-loop-id : goal.invariant-loop-id
invariant-loop-id l = map altered l.changes.items ++ map leaves_kept l.id-iterator ≡ map leaves_kept l.fn.self.records.entries
