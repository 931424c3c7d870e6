-- The constraints that a composed constraint is made of.
use Rattle.std.specs.Prelude.{ℕ, List, Bool}
use Rattle.fv_builtin.specs.BuiltIns.{BuiltIn}
use Rattle.fv_datum.specs.Attributes.{Attributes}

-- what a constraint asks itself: a built-in constraint, the rule of data of that number, the rule of objects of that number, or nothing,
-- where a constraint is only composed of others
pub data Test : Type 0 where
  built_in : BuiltIn → Test
  by_rule : ℕ → Test
  by_object_rule : ℕ → Test
  nothing : Test

-- a constraint: its name, its attributes in effect, what it asks itself, whether it reports as one, and its message
pub record Node : Type 0 where
  pub constraint : List ℕ
  pub attributes : Attributes
  pub test : Test
  pub single : Bool
  pub message : List ℕ
