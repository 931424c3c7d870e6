-- Moments: seconds since 1970-01-01T00:00:00Z.
use Rattle.std.specs.Prelude.{ℤ, pos, negsuc, ◌≤ℤ◌, ◌&&◌, Bool, int_le}

-- from 0001-01-01T00:00:00Z to 9999-12-30T00:00:00Z
abbrev pub IsMoment : ℤ → Type 0
IsMoment seconds = (negsuc 62135596799 ≤ℤ seconds) × (seconds ≤ℤ pos 253402128000)

-- a moment is from 0001-01-01T00:00:00Z to 9999-12-30T00:00:00Z, as a test
abbrev pub is_moment : ℤ → Bool
is_moment seconds = int_le (negsuc 62135596799) seconds && int_le seconds (pos 253402128000)
