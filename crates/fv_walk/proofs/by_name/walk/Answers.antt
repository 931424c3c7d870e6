use Rattle.std.proofs.lemmas.Int.{to_z-of_z}
use mir.Syntax.{w64}
use Rattle.fv_walk.proofs.by_name.walk.Goals as goal

pub returns-clause-violations : goal.returns-clause-violations
returns-clause-violations g c = rw (to_z-of_z w64 c.args.now c.ranges.now) at c.in_ok-walk_counted.ensures.violations
