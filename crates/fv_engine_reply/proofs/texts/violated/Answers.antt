use Rattle.std.proofs.Common.{map}
use Rattle.fv_validate.specs.ViolationView.{judged_view}
use Rattle.fv_engine_reply.proofs.NoFloats.{violated_whole}
use Rattle.fv_engine_reply.proofs.texts.violated.Goals as goal

pub text_of-requires : goal.text_of-requires
text_of-requires c = rw c.in_ok-value.ensures (violated_whole (map judged_view c.args.records.now))
