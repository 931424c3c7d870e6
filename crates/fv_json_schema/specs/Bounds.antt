-- Whole numbers beside bounds in units of 10^-9.
use Rattle.std.specs.Prelude.{ℤ, pos, ◌*ℤ◌, ◌≤ℤ◌, ◌^◌}

-- a whole number in units of 10^-9
abbrev pub units_of : ℤ → ℤ
units_of n = n *ℤ pos (10 ^ 9)

-- the least whole number that isn't below a bound
pub record IsLeastFrom (bound n : ℤ) : Type 0 where
  pub not_below : bound ≤ℤ units_of n
  pub least : (m : ℤ) → bound ≤ℤ units_of m → n ≤ℤ m

-- the greatest whole number that isn't above a bound
pub record IsGreatestUpTo (bound n : ℤ) : Type 0 where
  pub not_above : units_of n ≤ℤ bound
  pub greatest : (m : ℤ) → units_of m ≤ℤ bound → m ≤ℤ n
