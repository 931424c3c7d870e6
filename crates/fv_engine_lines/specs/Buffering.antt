-- What has been served of an input, the front of its next line in a buffer.
use Rattle.std.specs.Prelude.{◌≡◌, ℕ, List, [], ◌∷◌, ◌++◌, Option, take}
use Rattle.std.specs.List.{flat_map, AllByRecursion}
use Rattle.std.specs.Io.KnownBytes.{Consumes}
use Rattle.fv_engine_lines.specs.Lines.{ended, IsOpen}
use Rattle.fv_engine_lines.specs.Runs.{Steps, Ticks, Writing, Session, Answered, Run}

-- the part of a line that is kept while it is read
abbrev pub kept : List ℕ → List ℕ
kept line = take 1048577 line

-- each whole line of the bytes was answered, and of the rest the buffer keeps the front
pub record Buffered {P C O : Type 0} (step : Steps P) (ticks : Ticks C) (sends : Writing O) (old : Session P C O)
    (bytes buffer : List ℕ) (new : Session P C O) : Type 0 where
  pub lines : List (List ℕ)
  pub rest : List ℕ
  pub whole : bytes ≡ flat_map ended lines ++ rest
  pub each : AllByRecursion IsOpen lines
  pub open_rest : IsOpen rest
  pub keeps : buffer ≡ kept rest
  pub ran : Run step ticks sends old lines new

-- lines of the bytes were answered up to one whose reply was not both written whole and flushed
pub record Broken {P C O : Type 0} (step : Steps P) (ticks : Ticks C) (sends breaks : Writing O) (old : Session P C O)
    (bytes : List ℕ) (new : Session P C O) : Type 0 where
  pub lines : List (List ℕ)
  pub line : List ℕ
  pub behind : List ℕ
  pub whole : bytes ≡ flat_map ended (lines ++ line ∷ []) ++ behind
  pub each : AllByRecursion IsOpen (lines ++ line ∷ [])
  pub mid : Session P C O
  pub ran : Run step ticks sends old lines mid
  pub last : Answered step ticks breaks mid line new

-- what was read so far has been served
pub record Taken {P C O : Type 0} (step : Steps P) (ticks : Ticks C) (sends : Writing O) (r q : Option (List ℕ))
    (buffer : List ℕ) (old new : Session P C O) : Type 0 where
  pub input : List ℕ
  pub consumed : Consumes r q input
  pub served : Buffered step ticks sends old input buffer new
