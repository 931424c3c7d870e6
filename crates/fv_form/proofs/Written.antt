-- Declared constraints, and what stands in them: a value has no misfit exactly where it is read.
use Rattle.std.proofs.Common.{◌≡◌, ℕ, List, [], ◌∷◌, map, Bool, true, false, ◌&&◌, Option, is_some, codes, refl, sym, ◌∙◌}
use Rattle.serde_json.specs.Data as json
use Rattle.serde_json.specs.Find.{as_str, as_bool}
use Rattle.fv_datum.specs.Attributes.{AttributeValue, Attributes}
use Rattle.fv_datum.specs.Forms.{each_member, each_item, map2, map4, map5, required, maybe, optional}
use Rattle.fv_datum.specs.declared.attribute_kind.AttributeKind.{AttributeKind}
use Rattle.fv_declare_definition.specs.Attributes.{attr_of, attribute_of}
use Rattle.fv_declare_definition.specs.Definitions as spec
use Rattle.fv_declare_definition.specs.Written.{attribute_definition_of, attribute_kind_of, composing_of, definition_of, message_of, override_of, rule_of}
use Rattle.fv_form.specs.Asked.{asked}
use Rattle.fv_form.specs.Declarations.{of_definition, of_attribute, of_composing}
use Rattle.fv_form.specs.Entries.{must, may}
use Rattle.fv_form.specs.Misfits.{Entry, Misfit, first_of, first_misfit, in_entry}
use Rattle.fv_form.specs.declared.form_name.FormName.{FormName}
use Rattle.fv_form.specs.declared.form_name.FormName.TheVariants as part
use Rattle.fv_form.proofs.Told.{none_in, map_read, map2_read, map4_read, map5_read, none2, none4, none5, leaf_told, items_told, must_told, may_told, maybe_told, object_kept, members_kept, items_kept, leaf_kept}

-- a value has no misfit
abbrev pub is_kept : FormName → json.Data → Bool
is_kept form j = none_in (first_misfit asked form j)

-- what is wrong with the member of an entry
abbrev pub entry_at : FormName → json.Members → Entry FormName → Option (Misfit FormName)
entry_at form ms e = in_entry asked form e ms

-- what is wrong with the first member of an entry that is wrong
abbrev pub in_entries : FormName → List (Entry FormName) → json.Members → Option (Misfit FormName)
in_entries form es ms = first_of (map (λ e. in_entry asked form e ms) es)

-- ---- leaves

pub text_kept : (j : json.Data) → is_kept part.Text j ≡ is_some (as_str j)
text_kept = leaf_kept asked part.Text (λ j. is_some (as_str j)) (λ j. refl)

pub flag_kept : (j : json.Data) → is_kept part.Flag j ≡ is_some (as_bool j)
flag_kept = leaf_kept asked part.Flag (λ j. is_some (as_bool j)) (λ j. refl)

pub kind_kept : (j : json.Data) → is_kept part.AttributeKind j ≡ is_some (attribute_kind_of j)
kind_kept = leaf_kept asked part.AttributeKind (λ j. is_some (attribute_kind_of j)) (λ j. refl)

pub rule_kept : (j : json.Data) → is_kept part.Rule j ≡ is_some (rule_of j)
rule_kept = leaf_kept asked part.Rule (λ j. is_some (rule_of j)) (λ j. refl)

pub value_kept : (j : json.Data) → is_kept part.Value j ≡ is_some (attribute_of j)
value_kept json.null = refl
value_kept (json.boolean b) = refl
value_kept (json.number n) = leaf_told part.Value (is_some (attribute_of (json.number n)))
value_kept (json.string s) = refl
value_kept (json.array js) = items_told asked part.Text as_str text_kept 0 js ∙ sym (map_read _ _)
value_kept (json.object ms) = refl

-- ---- attributes that are given, and those that are overridden

pub with_kept : (j : json.Data) → is_kept part.With j ≡ is_some (each_member attr_of j)
with_kept = members_kept asked part.With part.Value attr_of (λ j. refl) (λ m. value_kept m.1 ∙ sym (map_read _ (attribute_of m.1)))

pub override_kept : (j : json.Data) → is_kept part.Override j ≡ is_some (each_member override_of j)
override_kept = members_kept asked part.Override part.Text override_of (λ j. refl) (λ m. text_kept m.1 ∙ sym (map_read _ (as_str m.1)))

-- ---- a composing constraint

abbrev composing_made : List ℕ → Attributes → List (List ℕ × List ℕ) → Option (List ℕ) → spec.Composing
composing_made name given overrides message = record { constraint = name; given = given; overrides = overrides; message = message }

abbrev composing_in : json.Data → Option spec.Composing
composing_in j = map4 composing_made (required as_str (codes "constraint") j) (optional [] (each_member attr_of) (codes "with") j) (optional [] (each_member override_of) (codes "override") j) (message_of j)

composing_right : (ms : json.Members) → none_in (in_entries part.Composing of_composing ms) ≡ is_some (composing_in (json.object ms))
composing_right ms =
    let j = json.object ms in
    let constraint : Option (List ℕ) = required as_str (codes "constraint") j in
    let given : Option Attributes = optional [] (each_member attr_of) (codes "with") j in
    let overrides : Option (List (List ℕ × List ℕ)) = optional [] (each_member override_of) (codes "override") j in
    let message : Option (Option (List ℕ)) = message_of j in
    none4 (entry_at part.Composing ms (must (codes "constraint") part.Text)) (entry_at part.Composing ms (may (codes "with") part.With)) (entry_at part.Composing ms (may (codes "override") part.Override)) (entry_at part.Composing ms (may (codes "message") part.Text))
    (is_some constraint) (is_some given) (is_some overrides) (is_some message)
    (must_told asked part.Composing (codes "constraint") part.Text as_str text_kept ms)
    (may_told asked part.Composing (codes "with") part.With [] (each_member attr_of) with_kept ms)
    (may_told asked part.Composing (codes "override") part.Override [] (each_member override_of) override_kept ms)
    (maybe_told asked part.Composing (codes "message") part.Text as_str text_kept ms)
    ∙ sym (map4_read composing_made constraint given overrides message)

pub composing_kept : (j : json.Data) → is_kept part.Composing j ≡ is_some (composing_of j)
composing_kept = object_kept asked part.Composing of_composing (codes "constraint" ∷ codes "with" ∷ codes "override" ∷ codes "message" ∷ []) composing_in (λ j. refl) (λ ms. refl) composing_right

pub compose_kept : (j : json.Data) → is_kept part.Compose j ≡ is_some (each_item composing_of j)
compose_kept = items_kept asked part.Compose part.Composing composing_of (λ j. refl) composing_kept

-- ---- an attribute of a declared constraint

abbrev attribute_made : List ℕ → AttributeKind → Option AttributeValue → List ℕ × spec.AttributeDefinition
attribute_made name kind default = (name, record { kind = kind; default = default })

abbrev attribute_in : List ℕ → json.Data → Option (List ℕ × spec.AttributeDefinition)
attribute_in name j = map2 (attribute_made name) (required attribute_kind_of (codes "kind") j) (maybe attribute_of (codes "default") j)

attribute_right : (name : List ℕ) (ms : json.Members) → none_in (in_entries part.Attribute of_attribute ms) ≡ is_some (attribute_in name (json.object ms))
attribute_right name ms =
    let j = json.object ms in
    let kind : Option AttributeKind = required attribute_kind_of (codes "kind") j in
    let default : Option (Option AttributeValue) = maybe attribute_of (codes "default") j in
    none2 (entry_at part.Attribute ms (must (codes "kind") part.AttributeKind)) (entry_at part.Attribute ms (may (codes "default") part.Value)) (is_some kind) (is_some default)
    (must_told asked part.Attribute (codes "kind") part.AttributeKind attribute_kind_of kind_kept ms)
    (maybe_told asked part.Attribute (codes "default") part.Value attribute_of value_kept ms)
    ∙ sym (map2_read (attribute_made name) kind default)

pub attribute_kept : (m : List ℕ × json.Data) → is_kept part.Attribute m.1 ≡ is_some (attribute_definition_of m)
attribute_kept m = object_kept asked part.Attribute of_attribute (codes "kind" ∷ codes "default" ∷ []) (attribute_in m.0) (λ j. refl) (λ ms. refl) (attribute_right m.0) m.1

pub attributes_kept : (j : json.Data) → is_kept part.Attributes j ≡ is_some (each_member attribute_definition_of j)
attributes_kept = members_kept asked part.Attributes part.Attribute attribute_definition_of (λ j. refl) attribute_kept

-- ---- a declared constraint

abbrev definition_made : List ℕ → List (List ℕ × spec.AttributeDefinition) → Option spec.Rule → List spec.Composing → Bool → Option (List ℕ) → List ℕ × spec.Definition
definition_made name attributes rule composing single message =
    (name, record { attributes = attributes; rule = rule; composing = composing; single = single; message = message })

abbrev definition_in : List ℕ → json.Data → Option (List ℕ × spec.Definition)
definition_in name j =
    map5 (definition_made name) (optional [] (each_member attribute_definition_of) (codes "attributes") j) (maybe rule_of (codes "rule") j) (optional [] (each_item composing_of) (codes "compose") j)
    (optional false as_bool (codes "single") j) (message_of j)

-- the reader asks for the rule before the constraints that it is composed of
swapped : (a b c d : Bool) → (a && (b && (c && d))) ≡ (a && (c && (b && d)))
swapped true true c d = refl
swapped true false true d = refl
swapped true false false d = refl
swapped false b c d = refl

definition_right : (name : List ℕ) (ms : json.Members) → none_in (in_entries part.Definition of_definition ms) ≡ is_some (definition_in name (json.object ms))
definition_right name ms =
    let j = json.object ms in
    let attributes : Option (List (List ℕ × spec.AttributeDefinition)) = optional [] (each_member attribute_definition_of) (codes "attributes") j in
    let compose : Option (List spec.Composing) = optional [] (each_item composing_of) (codes "compose") j in
    let rule : Option (Option spec.Rule) = maybe rule_of (codes "rule") j in
    let single : Option Bool = optional false as_bool (codes "single") j in
    let message : Option (Option (List ℕ)) = message_of j in
    none5 (entry_at part.Definition ms (may (codes "attributes") part.Attributes)) (entry_at part.Definition ms (may (codes "compose") part.Compose)) (entry_at part.Definition ms (may (codes "rule") part.Rule)) (entry_at part.Definition ms (may (codes "single") part.Flag)) (entry_at part.Definition ms (may (codes "message") part.Text))
    (is_some attributes) (is_some compose) (is_some rule) (is_some single) (is_some message)
    (may_told asked part.Definition (codes "attributes") part.Attributes [] (each_member attribute_definition_of) attributes_kept ms)
    (may_told asked part.Definition (codes "compose") part.Compose [] (each_item composing_of) compose_kept ms)
    (maybe_told asked part.Definition (codes "rule") part.Rule rule_of rule_kept ms)
    (may_told asked part.Definition (codes "single") part.Flag false as_bool flag_kept ms)
    (maybe_told asked part.Definition (codes "message") part.Text as_str text_kept ms)
    ∙ swapped (is_some attributes) (is_some compose) (is_some rule) (is_some single && is_some message)
    ∙ sym (map5_read (definition_made name) attributes rule compose single message)

pub definition_kept : (m : List ℕ × json.Data) → is_kept part.Definition m.1 ≡ is_some (definition_of m)
definition_kept m =
    object_kept asked part.Definition of_definition (codes "attributes" ∷ codes "compose" ∷ codes "rule" ∷ codes "single" ∷ codes "message" ∷ []) (definition_in m.0) (λ j. refl) (λ ms. refl) (definition_right m.0) m.1

pub definitions_kept : (j : json.Data) → is_kept part.Definitions j ≡ is_some (each_member definition_of j)
definitions_kept = members_kept asked part.Definitions part.Definition definition_of (λ j. refl) definition_kept
