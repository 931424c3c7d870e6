-- What is refused of the constraints that definitions are composed of.
use Rattle.std.specs.Prelude.{ℕ, ◌||◌, ◌&&◌, List, map, Bool, true, false, not, Option, Some, None, option_map, is_some}
use Rattle.std.specs.List.{list_any}
use Rattle.std.specs.Option.{option_map_or}
use Rattle.fv_builtin.specs.Given.{has_kind}
use Rattle.fv_builtin.specs.Table as table
use Rattle.fv_declare_definition.specs.Definitions.{Composing, Definition, Definitions}
use Rattle.fv_constraint.specs.Meanings.{Meant, builtin, declared, meant_by}
use Rattle.fv_datum.specs.AttributeKinds.{attribute_kind}
use Rattle.fv_datum.specs.Attributes.{Attributes}
use Rattle.fv_datum.specs.Lookup.{at_name}
use Rattle.fv_datum.specs.declared.attribute_kind.AttributeKind.{AttributeKind}

-- attributes by their names, each with its kind and whether it has a default
abbrev pub Signature : Type 0
Signature = List (List ℕ × (AttributeKind × Bool))

-- the attributes of a constraint
abbrev pub signature_attributes : Meant → Signature
signature_attributes (builtin which) = map (λ a. (a.0, (a.1.0, is_some a.1.1))) (table.attributes_of which)
signature_attributes (declared d) = map (λ a. (a.0, (a.1.kind, is_some a.1.default))) d.attributes

-- the kind of the attribute of that name, if it is there
abbrev pub kind_in : Signature → List ℕ → Option AttributeKind
kind_in attributes name = option_map (λ a. a.0) (at_name name attributes)

-- an attribute is given that isn't there, or is of another kind
abbrev pub gives_foreign : Signature → Attributes → Bool
gives_foreign attributes given = list_any (λ g. not (has_kind (kind_in attributes g.0) (attribute_kind g.1))) given

-- two attributes are there, and of the same kind
abbrev pub are_alike : Option AttributeKind → Option AttributeKind → Bool
are_alike None other = false
are_alike (Some kind) other = has_kind other kind

-- an overridden attribute isn't there, or the one whose value it takes isn't among the outer attributes, or they are of two kinds
abbrev pub overrides_foreign : Signature → Signature → List (List ℕ × List ℕ) → Bool
overrides_foreign outer attributes overrides = list_any (λ o. not (are_alike (kind_in attributes o.0) (kind_in outer o.1))) overrides

-- an attribute is both given and overridden
abbrev pub gives_overridden : Composing → Bool
gives_overridden c = list_any (λ o. is_some (at_name o.0 c.given)) c.overrides

-- an attribute is given or overridden
abbrev pub is_set : Composing → List ℕ → Bool
is_set c name = is_some (at_name name c.given) || is_some (at_name name c.overrides)

-- an attribute without default is neither
abbrev pub lacks_attribute : Signature → Composing → Bool
lacks_attribute attributes c = list_any (λ a. not a.1.1 && not (is_set c a.0)) attributes

-- what is given and overridden doesn't suit the attributes of the composing constraint, or the outer ones of the composed one; or an attribute is
-- both, or one without default is neither
abbrev pub is_unsuited : Signature → Signature → Composing → Bool
is_unsuited outer attributes c =
    gives_foreign attributes c.given || overrides_foreign outer attributes c.overrides
    || list_any (λ o. is_some (at_name o.0 c.given)) c.overrides || list_any (λ a. not a.1.1 && not (is_set c a.0)) attributes

-- a composing constraint of a definition is refused: it is neither built in nor declared, or what is given and overridden doesn't suit it
abbrev pub refuses_composing : Definitions → Definition → Composing → Bool
refuses_composing ds d c = option_map_or (λ m. is_unsuited (signature_attributes (declared d)) (signature_attributes m) c) (meant_by ds c.constraint) true
