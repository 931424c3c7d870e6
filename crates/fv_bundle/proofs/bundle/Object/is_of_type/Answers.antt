use Rattle.fv_bundle.specs.Views.{types_view, object_view}
use Rattle.fv_bundle.proofs.TypingTells.{of_type}
use Rattle.fv_bundle.proofs.bundle.Object.is_of_type.Goals as goal

pub returns : goal.returns
returns c = rw c.is_typed.ensures (of_type (types_view c.args.types.now) (object_view c.args.self.now))
