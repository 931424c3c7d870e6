-- What the name of a constraint stands for.
use Rattle.std.specs.Prelude.{ℕ, List, [], Bool, not, Option, Some, None, option_map, is_some}
use Rattle.std.specs.List.{list_any}
use Rattle.fv_builtin.specs.Names.{builtin_named}
use Rattle.fv_builtin.specs.declared.name.BuiltinName.{BuiltinName}
use Rattle.fv_declare_definition.specs.Definitions.{Composing, Definition, Definitions}
use Rattle.fv_datum.specs.Lookup.{at_name}

-- what a constraint's name stands for
pub data Meant : Type 0 where
  builtin : BuiltinName → Meant
  declared : Definition → Meant

-- built-in constraints come first
abbrev pub either_meant : Option BuiltinName → Option Definition → Option Meant
either_meant (Some which) found = Some (builtin which)
either_meant None found = option_map declared found

-- what a constraint's name stands for, none where it is neither built in nor declared
abbrev pub meant_by : Definitions → List ℕ → Option Meant
meant_by ds name = either_meant (builtin_named name) (at_name name ds)

-- the constraints that a constraint is composed of, in order
abbrev pub meant_composing : Meant → List Composing
meant_composing (builtin which) = []
meant_composing (declared d) = d.composing

-- a definition is composed of a constraint that is neither built in nor declared
abbrev pub composes_unknown : Definitions → Bool
composes_unknown ds = list_any (λ d. list_any (λ c. not (is_some (meant_by ds c.constraint))) d.1.composing) ds
