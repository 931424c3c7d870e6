-- What comes of reading a file.
use Rattle.std.specs.Prelude.{◌≡◌, ◌≤◌, ◌<◌, ◌⊎◌, ℕ, List, [], IfSome, length}
use Rattle.std.specs.declared.io.ErrorKind.{ErrorKind}
use Rattle.formd_task.specs.declared.bytes.Bytes.{Ghosts}
use Rattle.formd_task.specs.declared.files.FileFault.{FileFault}
use Rattle.formd_task.specs.declared.files.FileFault.TheVariants.{Unreadable}
use Rattle.formd_task.specs.FaultNames.{FaultOf}

-- an error of a kind for which this holds became the fault
abbrev pub FailsAs : (ErrorKind → Type 0) → FileFault → Type 0
FailsAs fails fault = (kind : ErrorKind) × fails kind × FaultOf kind fault

module _ {R : Type 0} (g : Ghosts R) where
  -- these are all the bytes that a reader gives, and not too many
  abbrev pub Whole : R → List ℕ → Type 0
  Whole reader bytes = (length bytes ≤ 16777216) × g.gives reader 16777217 [] bytes
      × IfSome (g.remaining reader) (λ given. bytes ≡ given)

  -- a reader gives too many bytes
  abbrev pub TooLong : R → Type 0
  TooLong reader = (bytes : List ℕ) × (16777216 < length bytes) × g.gives reader 16777217 [] bytes
      × IfSome (g.remaining reader) (λ given. 16777216 < length given)

  -- a reader isn't read, by this fault
  abbrev pub Unread : R → FileFault → Type 0
  Unread reader fault = FailsAs (g.fails reader) fault ⊎ ((fault ≡ Unreadable) × TooLong reader)
