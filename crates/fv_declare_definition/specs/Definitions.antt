-- Declared constraints.
use Rattle.std.specs.Prelude.{ℕ, List, Bool, Option}
use Rattle.fv_datum.specs.Attributes.{AttributeValue, Attributes}
use Rattle.fv_datum.specs.declared.attribute_kind.AttributeKind.{AttributeKind}

-- the number of a rule, of data or of objects
pub data Rule : Type 0 where
  of_data : ℕ → Rule
  of_objects : ℕ → Rule

-- an attribute of a declared constraint
pub record AttributeDefinition : Type 0 where
  pub kind : AttributeKind
  pub default : Option AttributeValue

-- a composing constraint: its name, the attributes that are given to it, those of its attributes that are overridden, each with the
-- attribute of the composed constraint whose value it takes, and the template of its message, if it has one of its own
pub record Composing : Type 0 where
  pub constraint : List ℕ
  pub given : Attributes
  pub overrides : List (List ℕ × List ℕ)
  pub message : Option (List ℕ)

-- a declared constraint: its attributes by their names, its rule, the constraints that it is composed of, whether it reports as one, and the
-- template of its message, if its declaration gives one
pub record Definition : Type 0 where
  pub attributes : List (List ℕ × AttributeDefinition)
  pub rule : Option Rule
  pub composing : List Composing
  pub single : Bool
  pub message : Option (List ℕ)

-- declared constraints by their names
abbrev pub Definitions : Type 0
Definitions = List (List ℕ × Definition)
