use Rattle.std.proofs.Common.{map, ap}
use Rattle.std.proofs.lemmas.Slice.Eq.{slice_eq-Decides}
use Rattle.fv_extract.specs.Views.{step_view}
use Rattle.fv_local.proofs.Steps.{step_decides, same_steps}
use Rattle.fv_local.proofs.uses.is_same.Goals as goal

pub returns-then-field-number : goal.returns-then-field-number
returns-then-field-number c =
    let decides = slice_eq-Decides step_decides c.in-Field-Field.steps.items c.in-Field-Field.others.items c.eq.result c.eq.ensures in
    rw (c.in-Field-Field.is-0, c.in-Field-Field.is-1)
    (λ is. (c.if-field-number.true, ap (map step_view) (decides.0 is)), λ same. decides.1 (same_steps c.in-Field-Field.steps.items c.in-Field-Field.others.items same.1))
