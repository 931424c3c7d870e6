use Rattle.fv_datum.specs.View.{view}
use Rattle.fv_bundle.specs.Types.{type_use_view}
use Rattle.fv_bundle.proofs.TypingTells.{of_use}
use Rattle.fv_bundle.proofs.typing.is_of_use.Goals as goal

pub returns : goal.returns
returns c = rw c.fits.ensures (of_use (type_use_view c.args.type_use.now) (view c.args.datum.now))
