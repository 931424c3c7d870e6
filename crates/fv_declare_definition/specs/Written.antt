-- Constraint definitions as they are written.
use Rattle.std.specs.Prelude.{ℕ, ℤ, pos, List, [], ◌∷◌, false, Option, Some, None, option_map, option_and_then, if◌then◌else◌, nat_le, codes}
use Rattle.std.specs.Option.{option_or}
use Rattle.serde_json.specs.Data as json
use Rattle.serde_json.specs.Find.{as_bool, as_str}
use Rattle.fv_datum.specs.Forms.{only, required, optional, maybe, each_member, each_item, map2, map4, map5}
use Rattle.fv_datum.specs.Json.{whole_of}
use Rattle.fv_datum.specs.Lookup.{at_name}
use Rattle.fv_datum.specs.declared.attribute_kind.AttributeKind.{AttributeKind}
use Rattle.fv_datum.specs.declared.attribute_kind.AttributeKind.TheVariants as attribute
use Rattle.fv_declare_definition.specs.Definitions.{Rule, of_data, of_objects, AttributeDefinition, Composing, Definition}
use Rattle.fv_declare_definition.specs.Attributes.{attr_of, attribute_of}

-- the kinds of attributes by their names
abbrev pub attribute_kinds : List (List ℕ × AttributeKind)
attribute_kinds =
    (codes "integer", attribute.Integer)
    ∷ (codes "text", attribute.Text)
    ∷ (codes "boolean", attribute.Boolean)
    ∷ (codes "texts", attribute.Texts)
    ∷ []

-- the kind of an attribute by its name
abbrev pub attribute_kind_of : json.Data → Option AttributeKind
attribute_kind_of j = option_and_then (λ name. at_name name attribute_kinds) (as_str j)

-- `{"kind":KIND,"default":VALUE}`, `default` may be missing
abbrev pub attribute_definition_of : List ℕ × json.Data → Option (List ℕ × AttributeDefinition)
attribute_definition_of m = only (codes "kind" ∷ codes "default" ∷ []) (λ j.
    map2 (λ kind default. (m.0, record { kind = kind; default = default }))
    (required attribute_kind_of (codes "kind") j) (maybe attribute_of (codes "default") j)) m.1

-- a rule's number, from 0 to 4294967295
abbrev pub number_in : ℤ → Option ℕ
number_in (pos n) = if nat_le n 4294967295 then Some n else None
number_in _ = None

-- the rule's number that a JSON value is
abbrev pub rule_number_of : json.Data → Option ℕ
rule_number_of (json.number n) = option_and_then number_in (whole_of n)
rule_number_of _ = None

-- the rule's number at a member that is the only one
abbrev pub rule_number_at : List ℕ → json.Data → Option ℕ
rule_number_at name = only (name ∷ []) (required rule_number_of name)

-- `{"field":N}` or `{"object":N}`
abbrev pub rule_of : json.Data → Option Rule
rule_of j = option_or (option_map of_data (rule_number_at (codes "field") j))
    (option_map of_objects (rule_number_at (codes "object") j))

-- an overridden attribute of a composing constraint, with the attribute of the composed constraint whose value it takes
abbrev pub override_of : List ℕ × json.Data → Option (List ℕ × List ℕ)
override_of m = option_map (λ outer. (m.0, outer)) (as_str m.1)

-- the template of a message, by the member `message`, which may be missing
abbrev pub message_of : json.Data → Option (Option (List ℕ))
message_of = maybe as_str (codes "message")

-- `{"constraint":NAME,"with":{..},"override":{..},"message":TEMPLATE}`, only `constraint` is required
abbrev pub composing_of : json.Data → Option Composing
composing_of = only (codes "constraint" ∷ codes "with" ∷ codes "override" ∷ codes "message" ∷ []) (λ j.
    map4 (λ name given overrides message. record { constraint = name; given = given; overrides = overrides; message = message })
    (required as_str (codes "constraint") j) (optional [] (each_member attr_of) (codes "with") j)
    (optional [] (each_member override_of) (codes "override") j) (message_of j))

-- `{"attributes":{..},"compose":[..],"rule":RULE,"single":BOOL,"message":TEMPLATE}`, all may be missing
abbrev pub definition_of : List ℕ × json.Data → Option (List ℕ × Definition)
definition_of m = only (codes "attributes" ∷ codes "compose" ∷ codes "rule" ∷ codes "single" ∷ codes "message" ∷ []) (λ j.
    map5 (λ attributes rule composing single message.
    (m.0, record { attributes = attributes; rule = rule; composing = composing; single = single; message = message }))
    (optional [] (each_member attribute_definition_of) (codes "attributes") j) (maybe rule_of (codes "rule") j)
    (optional [] (each_item composing_of) (codes "compose") j) (optional false as_bool (codes "single") j) (message_of j)) m.1
