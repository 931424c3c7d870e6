use Rattle.std.proofs.Common.{inr}
use Rattle.std.proofs.lemmas.Int.{to_z-of_z}
use mir.Syntax.{w64}
use Rattle.formd_task.proofs.task.clock_at.Goals as goal

pub returns-clause-refused : goal.returns-clause-refused
returns-clause-refused c = inr (
  c.in_ok-error.ensures.kind,
  λ is.
      let range = rw (to_z-of_z w64 c.args.seconds c.ranges.seconds) at c.moment_ok.ensures.range in
      let yes = range.1 is in
      let no = c.if-moment_ok.false in
      cc,
)
