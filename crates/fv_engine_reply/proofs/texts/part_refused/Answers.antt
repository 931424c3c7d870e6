use Rattle.std.proofs.Common.{Some}
use Rattle.fv_engine_reply.proofs.NoFloats.{refused_whole}
use Rattle.fv_engine_reply.proofs.texts.part_refused.Goals as goal

pub text_of-requires : goal.text_of-requires
text_of-requires c = rw c.in_ok-value.ensures (refused_whole (Some c.args.part) c.args.why)
