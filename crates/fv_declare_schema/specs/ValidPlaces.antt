-- The places whose objects are validated.
use Rattle.std.specs.Prelude.{ℕ, List}
use Rattle.fv_extract.specs.Places.{PlaceStep}

-- a place whose objects are validated: the numbers of its type and of its field there, the steps that lead to it in the field, and the
-- conversions on the way
pub record ValidPlace : Type 0 where
  pub type : ℕ
  pub field : ℕ
  pub steps : List PlaceStep
  pub conversions : List (ℕ × ℕ)
