use Rattle.fv_bundle.specs.Views.{types_view, bundle_view}
use Rattle.fv_bundle.proofs.TypingTells.{well_typed}
use Rattle.fv_bundle.proofs.bundle.Bundle.is_well_typed.Goals as goal

pub returns : goal.returns
returns c = rw c.is_sound.ensures (well_typed (types_view c.args.types.now) (bundle_view c.args.self.now))
