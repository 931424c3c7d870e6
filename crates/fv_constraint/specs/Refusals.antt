-- What is refused of definitions.
use Rattle.std.specs.Prelude.{◌||◌, ◌&&◌, Bool, false, length, nat_eq, not, Option, Some, None, is_some}
use Rattle.std.specs.List.{list_any}
use Rattle.fv_builtin.specs.Given.{is_same}
use Rattle.fv_datum.specs.AttributeKinds.{attribute_kind}
use Rattle.fv_datum.specs.Attributes.{AttributeValue}
use Rattle.fv_datum.specs.declared.attribute_kind.AttributeKind.{AttributeKind}
use Rattle.fv_registry.specs.Rules.{Known, knows_field, knows_object}
use Rattle.fv_constraint.specs.Composing.{refuses_composing}
use Rattle.fv_declare_definition.specs.Definitions.{Rule, of_data, of_objects, Definition, Definitions}

-- ---- one definition

-- a definition has neither a rule nor a composing constraint
abbrev pub is_empty : Definition → Bool
is_empty d = not (is_some d.rule) && nat_eq (length d.composing) 0

-- a rule isn't there for its sort
abbrev pub is_unknown_rule : Known → Option Rule → Bool
is_unknown_rule k None = false
is_unknown_rule k (Some (of_data rule)) = not (knows_field rule k)
is_unknown_rule k (Some (of_objects rule)) = not (knows_object rule k)

-- a default is of another kind than its attribute
abbrev pub is_other_kind : AttributeKind → Option AttributeValue → Bool
is_other_kind kind None = false
is_other_kind kind (Some v) = not (is_same kind (attribute_kind v))

-- an attribute of a definition has a default of another kind
abbrev pub bad_default : Definition → Bool
bad_default d = list_any (λ a. is_other_kind a.1.kind a.1.default) d.attributes

-- ---- definitions

-- one of the definitions has neither a rule nor a composing constraint
abbrev pub is_empty_in : Definitions → Bool
is_empty_in ds = list_any (λ d. is_empty d.1) ds

-- the rule of a definition isn't there for its sort
abbrev pub unknown_rule : Known → Definitions → Bool
unknown_rule k ds = list_any (λ d. is_unknown_rule k d.1.rule) ds

-- a definition has a default of another kind, or a composing constraint that is refused
abbrev pub bad_definition : Definitions → Bool
bad_definition ds = list_any (λ d.
    list_any (λ a. is_other_kind a.1.kind a.1.default) d.1.attributes || list_any (refuses_composing ds d.1) d.1.composing) ds
