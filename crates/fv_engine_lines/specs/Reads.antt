-- How often an input was read, and an output written to.
use Rattle.std.specs.Prelude.{◌≡◌, ◌⊎◌, ℕ, zero, suc, ◌<◌, ◌≤◌, List, length, Option}
use Rattle.std.specs.Io.KnownBytes.{Consumes}

-- the input lost at most so many known bytes, and only from its front
abbrev pub GivesAtMost : ℕ → Option (List ℕ) → Option (List ℕ) → Type 0
GivesAtMost most old new = (bytes : List ℕ) × (length bytes ≤ most) × Consumes old new bytes

-- so many calls, one after another, where this is what one call does
abbrev pub Times : {I : Type 0} → (I → I → Type 0) → ℕ → I → I → Type 0
Times calls zero old new = new ≡ old
Times {I} calls (suc n) old new = (mid : I) × Times calls n old mid × calls mid new

-- at most so many reads
abbrev pub ReadAtMost : {I : Type 0} → (I → I → Type 0) → ℕ → I → I → Type 0
ReadAtMost reads most old new = (times : ℕ) × (times ≤ most) × Times reads times old new

-- fewer reads than so many, and then one that did this
abbrev pub ReadsThen : {I : Type 0} → (I → I → Type 0) → (I → I → Type 0) → ℕ → I → I → Type 0
ReadsThen {I} reads does most old new = (times : ℕ) × (times < most) × (mid : I) × Times reads times old mid × does mid new

-- a read failed, or there were so many
abbrev pub ReadFails : {I : Type 0} → (I → I → Type 0) → (I → I → Type 0) → ℕ → I → I → Type 0
ReadFails reads fails most old new = ReadsThen reads fails most old new ⊎ ((times : ℕ) × (times ≡ most) × Times reads times old new)
