-- The built-in constraints with their attributes in effect, as contracts see them.
use Rattle.std.specs.Prelude.{ℕ, ℤ, Bool, true, false}
use Rattle.regex.specs.Patterns.{Re}

-- a built-in constraint: bounds in units of 10^-9, true where the bound itself passes; most digits before and behind the point; least and most size
pub data BuiltIn : Type 0 where
  null : BuiltIn
  not_null : BuiltIn
  assert_true : BuiltIn
  assert_false : BuiltIn
  min : ℤ → BuiltIn
  max : ℤ → BuiltIn
  decimal_min : ℤ → Bool → BuiltIn
  decimal_max : ℤ → Bool → BuiltIn
  positive : BuiltIn
  positive_or_zero : BuiltIn
  negative : BuiltIn
  negative_or_zero : BuiltIn
  digits : ℕ → ℕ → BuiltIn
  size : ℕ → ℕ → BuiltIn
  not_empty : BuiltIn
  not_blank : BuiltIn
  past : BuiltIn
  past_or_present : BuiltIn
  future : BuiltIn
  future_or_present : BuiltIn
  pattern : Re → BuiltIn

-- the constraint is a pattern
abbrev pub is_pattern : BuiltIn → Bool
is_pattern (pattern re) = true
is_pattern _ = false
