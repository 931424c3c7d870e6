-- Lines answered at the moment of a clock that is given, or at those of the other; and how the end is told.
use Rattle.std.proofs.Common.{◌≡◌, ℕ, List, Option, None, Some, Result, refl}
use Rattle.fv_engine_lines.specs.Runs.{Steps, Ticks}
use Rattle.fv_engine_lines.specs.declared.fixed_clock.FixedClock.{FixedClock}
use Rattle.fv_engine_lines.specs.declared.output.Output.{Ghosts}
use Rattle.fv_engine_lines.specs.declared.serving.ServeFault.{ServeFault}
use Rattle.formd_words.specs.Answering.{Ends, EndsAt, Stands}

module _ {P C O X : Type 0} (step : Steps P) (ticks : Ticks C) (g : Ghosts O) (r q : Option (List ℕ)) (result : Result X ServeFault) where
  -- by the cases of the clock
  pub ends_at : (fixed : Option FixedClock) (p x : P) (c d : C) (o y : O)
      → (fixed ≡ None → Ends step ticks g.contents g.takes g.flushes g.fails r q result (p, c, o) (x, d, y))
      → ((given : FixedClock) → fixed ≡ Some given → (d ≡ c)
      × ((last : FixedClock) × Ends step Stands g.contents g.takes g.flushes g.fails r q result (p, given, o) (x, last, y)))
      → EndsAt step ticks g r q result fixed (p, c, o) (x, d, y)
  ends_at None p x c d o y ticking standing = ticking refl
  ends_at (Some given) p x c d o y ticking standing = standing given refl
