use Rattle.std.proofs.Common.{map}
use Rattle.fv_validate.specs.ViolationView.{violation_view}
use Rattle.fv_engine_reply.proofs.NoFloats.{listing_whole}
use Rattle.fv_engine_reply.proofs.texts.listing.Goals as goal

pub text_of-requires : goal.text_of-requires
text_of-requires c = rw c.in_ok-value.ensures (listing_whole c.args.name.now (map violation_view c.args.violations.now))
