use Rattle.std.proofs.Common.{refl}
use Rattle.fv_engine.proofs.Lifts.{long_judged}
use Rattle.fv_engine.proofs.judge.LineJudgeResponder.answer_long.Goals as goal

pub returns : goal.returns
returns g c = λ line long. (refl, long_judged _ _ _ line _ _ long c.line_too_long.ensures)
