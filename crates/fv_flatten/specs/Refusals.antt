-- What is refused of the constraints in trees, and of the places where these stand.
use Rattle.std.specs.Prelude.{ℕ, List, ◌||◌, Bool, true, false, not, Option, Some, None, is_some}
use Rattle.std.specs.List.{list_any}
use Rattle.std.specs.Option.{option_or}
use Rattle.fv_builtin.specs.Given.{drafted}
use Rattle.fv_builtin.specs.Table.{takes}
use Rattle.fv_datum.specs.Attributes.{Attributes}
use Rattle.fv_datum.specs.Lookup.{at_name}
use Rattle.fv_registry.specs.Rules.{Known, rule_takes_kind}
use Rattle.fv_constraint_tree.specs.Targets.{Target, on_object, on_data}
use Rattle.fv_constraint.specs.Composing.{signature_attributes, gives_foreign}
use Rattle.fv_constraint.specs.Meanings.{Meant, builtin, declared}
use Rattle.fv_declare_definition.specs.Definitions.{Rule, of_data, of_objects, AttributeDefinition}

-- ---- the attributes that are given

-- an attribute has no value in effect: it is neither given nor has it a default
abbrev pub lacks_value : List (List ℕ × AttributeDefinition) → Attributes → Bool
lacks_value attributes given = list_any (λ a. not (is_some (option_or (at_name a.0 given) a.1.default))) attributes

-- a constraint refuses the attributes that are given
abbrev pub refuses_given : Meant → Attributes → Bool
refuses_given (builtin which) given = not (is_some (drafted which given))
refuses_given (declared d) given = gives_foreign (signature_attributes (declared d)) given || lacks_value d.attributes given

-- ---- the place where a constraint stands

-- a rule isn't of the place's sort, or doesn't take its kind; no rule refuses no place
abbrev pub rule_refuses : Known → Option Rule → Target → Bool
rule_refuses k None place = false
rule_refuses k (Some (of_data rule)) on_object = true
rule_refuses k (Some (of_data rule)) (on_data kind) = not (rule_takes_kind rule kind k)
rule_refuses k (Some (of_objects rule)) on_object = false
rule_refuses k (Some (of_objects rule)) (on_data kind) = true

-- a constraint's own test isn't on the place
abbrev pub refuses_place : Known → Meant → Target → Bool
refuses_place k (builtin which) on_object = true
refuses_place k (builtin which) (on_data kind) = not (takes which kind)
refuses_place k (declared d) place = rule_refuses k d.rule place
