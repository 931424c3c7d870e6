use Rattle.std.proofs.Common.{sym}
use Rattle.fv_bundle.proofs.TypingTells.{of_64}
use Rattle.fv_bundle.proofs.typing.is_integer.Goals as goal

pub returns : goal.returns
returns c = sym (of_64 c.args.number c.ranges.number)
