-- The definitions that contracts see.
use Rattle.std.specs.Prelude.{ℕ, List, map, option_map, String, string_bytes}
use Rattle.std.specs.declared.alloc.Global.{Global}
use Rattle.fv_datum.specs.Attributes.{attribute_view}
use Rattle.fv_declare_definition.specs.Definitions as spec
use Rattle.fv_declare_definition.specs.declared.definition.AttributeDefinition.{AttributeDefinition}
use Rattle.fv_declare_definition.specs.declared.definition.Composing.{Composing}
use Rattle.fv_declare_definition.specs.declared.definition.Definition.{Definition}
use Rattle.fv_declare_definition.specs.declared.definition.Rule.{Rule}
use Rattle.fv_declare_definition.specs.declared.definition.Rule.TheVariants as rule

-- the number of a rule
abbrev pub rule_view : Rule → spec.Rule
rule_view (rule.Data n) = spec.of_data n
rule_view (rule.Objects n) = spec.of_objects n

-- an attribute
abbrev pub attribute_definition_view : AttributeDefinition → spec.AttributeDefinition
attribute_definition_view a = record { kind = a.kind; default = option_map attribute_view a.default }

-- an attribute with its name
abbrev pub attribute_entry : String Global × AttributeDefinition → List ℕ × spec.AttributeDefinition
attribute_entry e = (string_bytes e.0, attribute_definition_view e.1)

-- an overridden attribute
abbrev pub override_entry : String Global × String Global → List ℕ × List ℕ
override_entry e = (string_bytes e.0, string_bytes e.1)

-- a composing constraint
abbrev pub composing_view : Composing → spec.Composing
composing_view c = record {
  constraint = string_bytes c.constraint;
  given = c.with;
  overrides = map override_entry c.overrides.entries;
  message = option_map string_bytes c.message;
}

-- a declared constraint
abbrev pub definition_view : Definition → spec.Definition
definition_view d = record {
  attributes = map attribute_entry d.attributes.entries;
  rule = option_map rule_view d.rule;
  composing = map composing_view d.composing.items;
  single = d.single;
  message = option_map string_bytes d.message;
}

-- a declared constraint with its name
abbrev pub definition_entry : String Global × Definition → List ℕ × spec.Definition
definition_entry e = (string_bytes e.0, definition_view e.1)
