-- Where a declared name may not be declared, and where a name is unknown.
use Rattle.std.specs.Prelude.{ℕ, ◌||◌, List, [], ◌∷◌, not, codes, if◌then◌else◌, Option, Some, None, option_map, is_some}
use Rattle.std.specs.Str.{bytes_eq}
use Rattle.fv_builtin.specs.Names.{is_builtin}
use Rattle.fv_constraint.specs.Meanings.{meant_by}
use Rattle.fv_constraint.specs.Whereabouts.{unknown_composing}
use Rattle.fv_datum.specs.Lookup.{at_name}
use Rattle.fv_datum.specs.Name.{names}
use Rattle.fv_declare_definition.specs.Definitions.{AttributeDefinition, Definition, Definitions}
use Rattle.fv_declare_draft.specs.AllUses.{DraftUse}
use Rattle.fv_declare_draft.specs.Drafts.{FieldDraft, FormDraft, TypeDraft, Drafted}
use Rattle.fv_first.specs.First.{first_in, first_where, first_of}
use Rattle.fv_declare_schema.specs.Groups.{Groups}
use Rattle.fv_bundle.specs.Types.{Declared}
use Rattle.fv_bundle.specs.Whereabouts.{unknown_reference_at}
use Rattle.fv_declare_judging.specs.Naming.{is_bad_group}
use Rattle.fv_declare_judging.specs.declared.placed.At.{At}
use Rattle.fv_declare_judging.specs.declared.placed.At.TheVariants.{Names, Constraints}
use Rattle.fv_declare_judging.specs.declared.placed.NamesAt.{NamesAt}
use Rattle.fv_declare_judging.specs.declared.placed.NamesAt.TheVariants as at

-- the first field that is named as no name
abbrev pub bad_field : List FieldDraft → Option ℕ
bad_field fs = first_where (λ f. not (names f.name)) fs

-- a type's own name, else that of its first field that is named as no name
abbrev pub bad_type : ℕ → TypeDraft → Option NamesAt
bad_type n t = if not (names t.name) || bytes_eq t.name (codes "Default") then Some (at.Type n) else option_map (at.Field n) (bad_field t.fields)

-- the first form that is named as no name
abbrev pub bad_form : List FormDraft → Option NamesAt
bad_form fs = first_in (λ n f. if not (names f.name) then Some (at.Form n) else None) fs

-- the first attribute that is named as no name
abbrev pub bad_attribute : List (List ℕ × AttributeDefinition) → Option ℕ
bad_attribute attributes = first_where (λ a. not (names a.0)) attributes

-- a declared constraint's own name, else that of its first attribute that is named as no name
abbrev pub bad_definition : ℕ → List ℕ × Definition → Option NamesAt
bad_definition n c = if not (names c.0) || is_builtin c.0 then Some (at.Definition n) else option_map (at.Attribute n) (bad_attribute c.1.attributes)

-- the first group that is named as no name, as the group that is always there or like a type
abbrev pub bad_group : List TypeDraft → Groups → Option NamesAt
bad_group ts gs = first_in (λ n g. if is_bad_group ts g then Some (at.Group n) else None) gs

-- the first name that may not be declared: of types with their fields, of forms, of constraints with their attributes, of groups
abbrev pub bad_name : Drafted → Option NamesAt
bad_name d = first_of (first_in bad_type d.types ∷ bad_form d.forms ∷ first_in bad_definition d.definitions ∷ bad_group d.types d.groups ∷ [])

-- ---- unknown names

-- the first use of a constraint that is neither built in nor declared
abbrev pub unknown_use : Definitions → List DraftUse → Option At
unknown_use ds us = first_in (λ n u. if not (is_some (meant_by ds u.draft.constraint)) then Some (Names (at.Use n)) else None) us

-- the first constraint of that sort of which one is composed
abbrev pub unknown_part : Definitions → Option At
unknown_part ds = option_map Constraints (unknown_composing ds)

-- the first form whose root is none of the types
abbrev pub unknown_root : Declared → List FormDraft → Option At
unknown_root ts fs = first_in (λ n f. if not (is_some (at_name f.root ts)) then Some (Names (at.Root n)) else None) fs

-- the first field that refers to none of the types
abbrev pub unknown_reference : Declared → Option At
unknown_reference ts = option_map (λ p. Names (at.Reference p)) (unknown_reference_at ts)

-- the first of these, in this order, where the types are declared as well
abbrev pub unknown_name : Declared → Definitions → List DraftUse → List FormDraft → Option At
unknown_name ts ds us fs = first_of (unknown_use ds us ∷ unknown_part ds ∷ unknown_root ts fs ∷ unknown_reference ts ∷ [])
