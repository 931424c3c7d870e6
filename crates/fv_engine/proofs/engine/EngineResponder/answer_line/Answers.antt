use Rattle.std.proofs.lemmas.Int.{to_z-of_z}
use mir.Syntax.{w64}
use Rattle.fv_engine.proofs.engine.EngineResponder.answer_line.Goals as goal

pub returns : goal.returns
returns g c = rw (to_z-of_z w64 c.args.now c.ranges.now) at c.run.ensures.causes
