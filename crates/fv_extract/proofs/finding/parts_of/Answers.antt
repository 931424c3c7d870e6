use Rattle.std.proofs.Common.{map, get_or, ap, ◌∙◌, arith}
use Rattle.std.specs.List.{flat_map}
use Rattle.fv_datum.specs.View.{view}
use Rattle.fv_extract.specs.FoundView.{found_view}
use Rattle.fv_extract.specs.Parts.{further}
use Rattle.fv_extract.specs.Views.{step_view}
use Rattle.fv_extract.specs.declared.place.Step.TheVariants.{Element}
use Rattle.fv_extract.proofs.Longer.{parts_more}
use Rattle.fv_extract.proofs.finding.parts_of.Goals as goal

pub loop-step-preserved : goal.loop-step-preserved
loop-step-preserved c =
    let step = step_view (get_or c.args.steps.now c.loop-step.step-index Element) in
    parts_more c.args.steps.now c.loop-step.step-index Element (view c.args.datum.now) (map found_view c.loop-step.found.items) _ (omega arith) c.loop-step.invariant
    (c.in_ok-found-2.ensures ∙ ap (λ ps. flat_map (further step) (map found_view ps)) c.deref.ensures.value)
