use Rattle.std.proofs.Common.{map, ap, ap₂}
use Rattle.std.proofs.lemmas.Slice.Eq.{slice_eq-Decides}
use Rattle.fv_extract.specs.Places.{PlaceStep, FieldPlace}
use Rattle.fv_extract.specs.Views.{step_view}
use Rattle.fv_local.proofs.Steps.{step_decides, same_steps}
use Rattle.fv_listing.proofs.turn.is_same_place.Goals as goal

pub returns-then-one-other : goal.returns-then-one-other
returns-then-one-other c =
    let decides = slice_eq-Decides step_decides c.args.one.now.steps.items c.args.other.now.steps.items c.eq.result c.eq.ensures in (
      λ is. ap₂ (λ field steps. record { field = field; steps = steps }) c.if-one-other.true (ap (map step_view) (decides.0 is)),
      λ same. decides.1 (same_steps c.args.one.now.steps.items c.args.other.now.steps.items (ap (λ (p : FieldPlace). p.steps) same)),
    )
