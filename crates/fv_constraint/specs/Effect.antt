-- The attributes that constraints get, by their names.
use Rattle.std.specs.Prelude.{ℕ, List, Option, option_and_then}
use Rattle.std.specs.Option.{option_or}
use Rattle.fv_datum.specs.Attributes.{AttributeValue, Attributes}
use Rattle.fv_datum.specs.Lookup.{at_name}
use Rattle.fv_builtin.specs.Table as table
use Rattle.fv_declare_definition.specs.Definitions.{Composing}
use Rattle.fv_constraint.specs.Meanings.{Meant, builtin, declared}

-- the default of a constraint's attribute, if it has one
abbrev pub attribute_default : Meant → List ℕ → Option AttributeValue
attribute_default (builtin which) name = table.default_of which name
attribute_default (declared d) name = option_and_then (λ a. a.default) (at_name name d.attributes)

-- the value in effect of a constraint's attribute: as it is given, else the default
abbrev pub effective : Meant → Attributes → List ℕ → Option AttributeValue
effective m given name = option_or (at_name name given) (attribute_default m name)

-- the value that a composing constraint is handed for its attribute, by the values in effect of the constraint that it composes: as it is given,
-- else the value of the attribute that overrides it
abbrev pub handed : Composing → (List ℕ → Option AttributeValue) → List ℕ → Option AttributeValue
handed c above name = option_or (at_name name c.given) (option_and_then above (at_name name c.overrides))
