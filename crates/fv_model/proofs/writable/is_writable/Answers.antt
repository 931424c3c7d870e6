use Rattle.fv_datum.specs.View.{view}
use Rattle.fv_model.proofs.Writables.{writable}
use Rattle.fv_model.proofs.writable.is_writable.Goals as goal

pub returns : goal.returns
returns c = rw c.is_orderly.ensures (writable (view c.args.datum.now))
