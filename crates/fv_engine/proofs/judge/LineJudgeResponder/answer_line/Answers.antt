use Rattle.std.proofs.Common.{refl}
use Rattle.std.proofs.lemmas.Int.{to_z-of_z}
use mir.Syntax.{w64}
use Rattle.fv_engine.proofs.judge.LineJudgeResponder.answer_line.Goals as goal

pub returns : goal.returns
returns g c = (refl, rw (to_z-of_z w64 c.args.now c.ranges.now) at c.judge.ensures)
