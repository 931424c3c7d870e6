-- Lines answered one after another.
use Rattle.std.specs.Prelude.{◌≡◌, ◌⊎◌, ℕ, ℤ, List, [], ◌∷◌, ◌++◌, Option}
use Rattle.fv_datum.specs.Moments.{IsMoment}
use Rattle.fv_engine_lines.specs.Lines.{ended, WholeLines, AllLines}

-- what one line does: from what answers it, by the line, the moment and the reply, to what answers the next line
abbrev pub Steps : Type 0 → Type 1
Steps P = P → List ℕ → ℤ → List ℕ → P → Type 0

-- what one reading of the clock does
abbrev pub Ticks : Type 0 → Type 1
Ticks C = C → ℤ → C → Type 0

-- what the writing of bytes does to an output
abbrev pub Writing : Type 0 → Type 1
Writing O = O → O → List ℕ → Type 0

-- what answers lines, the clock and the output
abbrev pub Session : Type 0 → Type 0 → Type 0 → Type 0
Session P C O = P × C × O

-- one line was answered at the clock's next moment, and with the reply and its end was done what `writes` says
abbrev pub Answered : {P C O : Type 0} → Steps P → Ticks C → Writing O → Session P C O → List ℕ → Session P C O → Type 0
Answered step ticks writes (p, c, w) line (q, d, v) =
    (reply : List ℕ) × (moment : ℤ) × ticks c moment d × step p line moment reply q × writes w v (ended reply) × IsMoment moment

-- these lines were answered, one after another
abbrev pub Run : {P C O : Type 0} → Steps P → Ticks C → Writing O → Session P C O → List (List ℕ) → Session P C O → Type 0
Run step ticks sends old [] new = new ≡ old
Run {P} {C} {O} step ticks sends old (line ∷ lines) new =
    (mid : Session P C O) × Answered step ticks sends old line mid × Run step ticks sends mid lines new

-- lines of this sort, `WholeLines` or `AllLines` of what was read, were answered
abbrev pub Served : {P C O : Type 0} → Steps P → Ticks C → Writing O → (List (List ℕ) → Type 0) → Session P C O → Session P C O → Type 0
Served step ticks sends Are old new = (lines : List (List ℕ)) × Are lines × Run step ticks sends old lines new

-- some lines were answered, then one of which a write or the flush failed or a write took nothing: its reply may be there in part; `others` were only read
pub record Stopped {P C O : Type 0} (step : Steps P) (ticks : Ticks C) (sends breaks : Writing O) (r q : Option (List ℕ))
    (old new : Session P C O) : Type 0 where
  pub lines : List (List ℕ)
  pub line : List ℕ
  pub others : List (List ℕ)
  pub read : WholeLines r q (lines ++ line ∷ others) ⊎ AllLines r q (lines ++ line ∷ others)
  pub mid : Session P C O
  pub ran : Run step ticks sends old lines mid
  pub last : Answered step ticks breaks mid line new
