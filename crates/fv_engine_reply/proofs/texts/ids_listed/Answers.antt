use Rattle.std.proofs.Common.{map, string_bytes}
use Rattle.fv_engine_reply.proofs.NoFloats.{ids_whole}
use Rattle.fv_engine_reply.proofs.texts.ids_listed.Goals as goal

pub text_of-requires : goal.text_of-requires
text_of-requires c = rw c.in_ok-value.ensures (ids_whole (map string_bytes c.args.ids.now))
