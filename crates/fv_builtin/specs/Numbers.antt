-- The number that a datum is, and how many digits it has. Numbers are in units of 10^-9.
use Rattle.std.specs.Prelude.{ℕ, ◌*◌, ◌/◌, ◌%◌, ◌^◌, ◌==◌, ℤ, pos, ◌*ℤ◌, unsigned_abs, Bool, nat_lt, Option, Some, None}
use Rattle.fv_datum.specs.Data.{Data, integer, decimal}
use Rattle.fv_datum.specs.Decimals.{decimal_units}

-- the number of an integer or of a decimal; other data are none
abbrev pub number_of : Data → Option ℤ
number_of (integer n) = Some (n *ℤ pos (10 ^ 9))
number_of (decimal s) = decimal_units s
number_of _ = None

-- at most so many digits before the point: the whole part, without its sign, is below that power of ten, so 0 has none
abbrev pub has_integral : ℕ → ℤ → Bool
has_integral count n = nat_lt (unsigned_abs n / 10 ^ 9) (10 ^ count)

-- at most so many digits behind the point: times that power of ten it is a whole number
abbrev pub has_fraction : ℕ → ℤ → Bool
has_fraction count n = (unsigned_abs n * 10 ^ count) % 10 ^ 9 == 0
