-- Places in objects.
use Rattle.std.specs.Prelude.{ℕ, List}

-- one step into a datum: to each element of a list, each key of a map, each value of a map, or the content of an optional
pub data PlaceStep : Type 0 where
  element : PlaceStep
  key : PlaceStep
  value : PlaceStep
  content : PlaceStep

-- a place in the objects of a type: the field of a number, and steps from there
pub record FieldPlace : Type 0 where
  pub field : ℕ
  pub steps : List PlaceStep
