-- How the answering of lines ends.
use Rattle.std.specs.Prelude.{◌≡◌, ℕ, ℤ, List, Option, None, Some, Result, Ok, Err, OnOk, IsErrOf}
use Rattle.fv_engine_lines.specs.declared.fixed_clock.FixedClock.{FixedClock}
use Rattle.fv_engine_lines.specs.declared.output.Output.{Ghosts}
use Rattle.fv_engine_lines.specs.declared.serving.ServeFault.{ServeFault}
use Rattle.fv_engine_lines.specs.declared.serving.ServeFault.TheVariants.{Read, Write, Memory}
use Rattle.fv_engine_lines.specs.Lines.{AllLines, WholeLines}
use Rattle.fv_engine_lines.specs.Runs.{Session, Served, Steps, Stopped, Ticks}
use Rattle.fv_engine_lines.specs.Writes.{Breaks, Sends}
use Rattle.formd_words.specs.declared.failure.Failure.{Failure}
use Rattle.formd_words.specs.Failures.{serve_failure}

-- what a clock that stands does: it tells its moment, and goes on standing
abbrev pub Stands : FixedClock → ℤ → FixedClock → Type 0
Stands old moment new = (moment ≡ old.moment) × (new ≡ old)

-- All lines were answered, each reply written and flushed; or the whole ones that were read; or some of these, and then a call of the output
-- failed; or none, for want of memory.
pub record Ends {P C O X : Type 0} (step : Steps P) (ticks : Ticks C) (contents : O → Option (List ℕ)) (takes flushes fails : O → O → Type 0)
    (r q : Option (List ℕ)) (result : Result X ServeFault) (old new : Session P C O) : Type 0 where
  pub ok : OnOk result (Served step ticks (Sends contents takes flushes) (AllLines r q) old new)
  pub read : IsErrOf result Read → Served step ticks (Sends contents takes flushes) (WholeLines r q) old new
  pub write : IsErrOf result Write → Stopped step ticks (Sends contents takes flushes) (Breaks contents takes fails) r q old new
  pub memory : IsErrOf result Memory → new ≡ old

module _ {P C O X : Type 0} (step : Steps P) (ticks : Ticks C) (g : Ghosts O) (r q : Option (List ℕ)) (result : Result X ServeFault) where
  -- the same at the moment of a clock that is given, and the other isn't asked; or at those of the other
  abbrev pub EndsAt : Option FixedClock → Session P C O → Session P C O → Type 0
  EndsAt None old new = Ends step ticks g.contents g.takes g.flushes g.fails r q result old new
  EndsAt (Some given) (p, c, o) (x, d, y) =
      (d ≡ c) × ((last : FixedClock) × Ends step Stands g.contents g.takes g.flushes g.fails r q result (p, given, o) (x, last, y))

-- the fault of answering is told as a failure; where there is none, none is
abbrev pub IsToldAs : {X : Type 0} → Result X ServeFault → Result X Failure → Type 0
IsToldAs (Ok _) (Ok _) = Unit {0}
IsToldAs (Err fault) (Err told) = told ≡ serve_failure fault
IsToldAs _ _ = ⊥
