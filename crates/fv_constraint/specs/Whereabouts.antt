-- Where definitions have a fault.
use Rattle.std.specs.Prelude.{ℕ, ◌||◌, ◌&&◌, List, [], ◌∷◌, not, if◌then◌else◌, Option, Some, None, option_map, is_some, slice_index_or}
use Rattle.std.specs.Option.{option_or, option_map_or}
use Rattle.fv_builtin.specs.Given.{has_kind}
use Rattle.fv_builtin.specs.Table.{required_attributes}
use Rattle.fv_constraint.specs.Composing.{Signature, signature_attributes, kind_in, are_alike, is_set}
use Rattle.fv_constraint.specs.Meanings.{Meant, builtin, declared, meant_by}
use Rattle.fv_constraint.specs.Numbered.{edges_of}
use Rattle.fv_constraint.specs.Refusals.{is_empty, is_unknown_rule, is_other_kind}
use Rattle.fv_constraint.specs.declared.at.ConstraintAt.{ConstraintAt}
use Rattle.fv_constraint.specs.declared.at.ConstraintAt.TheVariants as at
use Rattle.fv_datum.specs.AttributeKinds.{attribute_kind}
use Rattle.fv_datum.specs.Attributes.{Attributes}
use Rattle.fv_datum.specs.Lookup.{at_name}
use Rattle.fv_declare_definition.specs.Definitions.{Composing, Definition, Definitions}
use Rattle.fv_first.specs.First.{first_in, first_where, first_of}
use Rattle.fv_registry.specs.Rules.{Known}
use Rattle.fv_ring.specs.Rings.{IsRing}

-- ---- definitions

-- the first composing constraint that is neither built in nor declared
abbrev pub unknown_composing : Definitions → Option ConstraintAt
unknown_composing ds = first_in (λ n d. option_map (at.Composing n) (first_where (λ c. not (is_some (meant_by ds c.constraint))) d.1.composing)) ds

-- the numbers of the definitions that a definition is composed of; another constraint has the number behind the last
abbrev pub composed_numbers : Definitions → ℕ → List ℕ
composed_numbers ds n = slice_index_or (edges_of ds) n []

-- numbers of definitions of which each is composed of the next, and the last of the first
abbrev pub IsCompositionRing : Definitions → List ℕ → Type 0
IsCompositionRing ds ns = IsRing (composed_numbers ds) ns

-- the number of the first definition with neither a rule nor a composing constraint
abbrev pub empty_definition : Definitions → Option ℕ
empty_definition ds = first_where (λ d. is_empty d.1) ds

-- the first definition whose rule isn't there for its sort
abbrev pub unknown_rule_at : Known → Definitions → Option ConstraintAt
unknown_rule_at k ds = first_in (λ n d. if is_unknown_rule k d.1.rule then Some (at.Definition n) else None) ds

-- ---- attributes

-- the first attribute whose default is of another kind
abbrev pub bad_default_at : Definition → Option ℕ
bad_default_at d = first_where (λ a. is_other_kind a.1.kind a.1.default) d.attributes

-- the first attribute that is given and isn't there, or is of another kind
abbrev pub foreign_given : Signature → Attributes → Option ℕ
foreign_given own given = first_where (λ g. not (has_kind (kind_in own g.0) (attribute_kind g.1))) given

-- the first override of what isn't there, or by what isn't among the outer attributes, or of another kind, or of what is given as well
abbrev pub unsuited_override : Signature → Signature → Composing → Option ℕ
unsuited_override outer own c =
    first_where (λ o. not (are_alike (kind_in own o.0) (kind_in outer o.1)) || is_some (at_name o.0 c.given)) c.overrides

-- the first attribute without default that is neither given nor overridden: of a built-in constraint among those that it requires, of a declared one
-- among them all
abbrev pub lacking_attribute : Meant → Composing → Option ℕ
lacking_attribute (builtin which) c = first_where (λ name. not (is_set c name)) (required_attributes which)
lacking_attribute (declared d) c = first_where (λ a. not (is_some a.1.default) && not (is_set c a.0)) d.attributes

-- the first of these, in this order, of a composing constraint by its definition's number and its own, within the outer attributes
abbrev pub unsuited_at : Signature → Meant → ℕ → ℕ → Composing → Option ConstraintAt
unsuited_at outer m number place c = first_of (
    option_map (at.Given number place) (foreign_given (signature_attributes m) c.given)
    ∷ option_map (at.Overridden number place) (unsuited_override outer (signature_attributes m) c)
    ∷ option_map (at.Lacking number place) (lacking_attribute m c)
    ∷ [])

-- what is refused first of a definition's composing constraint: as a whole where it is neither built in nor declared
abbrev pub refused_composing : Definitions → Definition → ℕ → ℕ → Composing → Option ConstraintAt
refused_composing ds d number place c =
    option_map_or (λ m. unsuited_at (signature_attributes (declared d)) m number place c) (meant_by ds c.constraint) (Some (at.Composing number place))

-- what is refused first of the definition of that number: a default of another kind, else a composing constraint
abbrev pub bad_in : Definitions → ℕ → Definition → Option ConstraintAt
bad_in ds number d = option_or (option_map (at.Default number) (bad_default_at d)) (first_in (refused_composing ds d number) d.composing)

-- what is refused first of definitions
abbrev pub bad_definition_at : Definitions → Option ConstraintAt
bad_definition_at ds = first_in (λ n d. bad_in ds n d.1) ds
