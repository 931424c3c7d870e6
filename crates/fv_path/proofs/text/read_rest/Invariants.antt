use Rattle.std.proofs.Common.{length}
use Rattle.fv_path.proofs.Turns.{Read}
use Rattle.fv_path.proofs.text.read_rest.Given as goal

abbrev pub invariant-loop-rest : goal.invariant-loop-rest
invariant-loop-rest l = Read l.fn.begun l.path l.rest l.fn.text

abbrev pub decreases-loop-rest : goal.decreases-loop-rest
decreases-loop-rest l = length l.rest
