use Rattle.std.proofs.Common.{map}
use Rattle.fv_engine_pending.proofs.Judged.{Judging}
use Rattle.fv_engine_pending.specs.Ways.{pending_view}
use Rattle.fv_validate.specs.ViolationView.{judged_view}
use Rattle.fv_engine_pending.proofs.judging.judge.Given as goal

abbrev pub invariant-loop-id : goal.invariant-loop-id
invariant-loop-id g l = Judging g.R.RuleSet.meaning l.book l.now (map judged_view l.judged.items) l.id-iterator (pending_view l.pending)
