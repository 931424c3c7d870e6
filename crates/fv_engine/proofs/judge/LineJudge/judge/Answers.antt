use Rattle.std.proofs.lemmas.Int.{to_z-of_z}
use mir.Syntax.{w64}
use Rattle.fv_engine.proofs.Lifts.{long_judged, short_judged}
use Rattle.fv_engine.proofs.judge.LineJudge.judge.Goals as goal

pub returns-then-line-gt-LIMIT : goal.returns-then-line-gt-LIMIT
returns-then-line-gt-LIMIT g c = long_judged _ _ _ c.args.line.now _ _ c.if-line-gt-LIMIT.true c.line_too_long.ensures

pub returns : goal.returns
returns g c = short_judged _ _ _ c.args.line.now _ _ c.if-line-gt-LIMIT.false (rw (to_z-of_z w64 c.args.now c.ranges.now) at c.judge_line.ensures)
