-- How an engine answers lines.
use Rattle.sqlite.specs.State.{State}
use Rattle.fv_engine_lines.specs.Runs.{Steps}
use Rattle.fv_engine_machine.specs.Services.{GoesOn, Responds, Service}
use Rattle.fv_registry.specs.Meanings.{Meanings}

-- a line's step of an engine over a connection
abbrev pub AnswersLine : {H : Type 0} → (H → State) → Meanings → Steps (Service H)
AnswersLine held means old line moment text new = GoesOn held old new (λ x y. Responds means x line moment text y)
