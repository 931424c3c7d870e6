use Rattle.std.proofs.Common.{refl}
use Rattle.fv_datum.proofs.Values.{length-members}
use Rattle.fv_model_fault.proofs.placing.are_too_many.Goals as goal

pub returns : goal.returns
returns c = rw (length-members c.args.objects.now.entries, ← c.len.ensures.len) refl
