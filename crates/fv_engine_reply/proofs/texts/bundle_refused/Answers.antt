use Rattle.std.proofs.Common.{refl}
use Rattle.fv_engine_reply.proofs.texts.bundle_refused.Goals as goal

pub text_of-requires : goal.text_of-requires
text_of-requires c = rw c.in_ok-value.ensures refl
