-- A place is found exactly where a fault's condition holds.
use Rattle.std.proofs.Common.{◌≡◌, ℕ, List, [], ◌∷◌, Bool, true, false, not, ◌||◌, ◌&&◌, Option, Some, None, option_map, is_some, refl, sym, ap, ap₂, ◌∙◌}
use Rattle.std.specs.List.{list_any}
use Rattle.std.specs.Option.{option_map_or}
use Rattle.fv_builtin.specs.Given.{has_kind}
use Rattle.fv_flatten.proofs.Signatures.{any_seen, lacks_required}
use Rattle.fv_constraint.specs.Composing.{Signature, signature_attributes, kind_in, gives_foreign, are_alike, overrides_foreign, gives_overridden, is_set, lacks_attribute, is_unsuited, refuses_composing}
use Rattle.fv_constraint.specs.Meanings.{Meant, builtin, declared, meant_by}
use Rattle.fv_constraint.specs.Refusals.{is_unknown_rule, is_other_kind, bad_default, unknown_rule, bad_definition}
use Rattle.fv_constraint.specs.Whereabouts.{unknown_rule_at, bad_default_at, foreign_given, unsuited_override, lacking_attribute, unsuited_at, refused_composing, bad_in, bad_definition_at}
use Rattle.fv_constraint.specs.declared.at.ConstraintAt.TheVariants as at
use Rattle.fv_datum.specs.AttributeKinds.{attribute_kind}
use Rattle.fv_datum.specs.Attributes.{Attributes}
use Rattle.fv_datum.specs.Lookup.{at_name}
use Rattle.fv_datum.specs.declared.attribute_kind.AttributeKind.{AttributeKind}
use Rattle.fv_declare_definition.specs.Definitions.{AttributeDefinition, Composing, Definition, Definitions}
use Rattle.fv_first.proofs.Laws.{or_told, or_none, map_told, when_told, first_told, where_told}
use Rattle.fv_registry.specs.Rules.{Known}

pub rule_told : (k : Known) (ds : Definitions) → is_some (unknown_rule_at k ds) ≡ unknown_rule k ds
rule_told k ds = first_told _ (λ (d : List ℕ × Definition). is_unknown_rule k d.1.rule) (λ n d. when_told (is_unknown_rule k d.1.rule) (at.Definition n)) 0 ds

-- ---- attributes

pub foreign_told : (own : Signature) (given : Attributes) → is_some (foreign_given own given) ≡ gives_foreign own given
foreign_told own given = where_told (λ g. not (has_kind (kind_in own g.0) (attribute_kind g.1))) given

any_or : {X : Type 0} (s t : X → Bool) (xs : List X) → list_any (λ x. s x || t x) xs ≡ (list_any s xs || list_any t xs)
any_or s t [] = refl
any_or s t (x ∷ xs) = ap (λ b. (s x || t x) || b) (any_or s t xs) ∙ turned (s x) (t x) (list_any s xs) (list_any t xs)
  where
    turned : (a b c d : Bool) → ((a || b) || (c || d)) ≡ ((a || c) || (b || d))
    turned true b c d = refl
    turned false true true d = refl
    turned false true false d = refl
    turned false false c d = refl

override_told : (outer own : Signature) (c : Composing) → is_some (unsuited_override outer own c) ≡ (overrides_foreign outer own c.overrides || gives_overridden c)
override_told outer own c =
    where_told (λ (o : List ℕ × List ℕ). not (are_alike (kind_in own o.0) (kind_in outer o.1)) || is_some (at_name o.0 c.given)) c.overrides
    ∙ any_or (λ (o : List ℕ × List ℕ). not (are_alike (kind_in own o.0) (kind_in outer o.1))) (λ o. is_some (at_name o.0 c.given)) c.overrides

lacking_told : (m : Meant) (c : Composing) → is_some (lacking_attribute m c) ≡ lacks_attribute (signature_attributes m) c
lacking_told (builtin which) c = where_told (λ name. not (is_set c name)) _ ∙ sym (lacks_required which c)
lacking_told (declared d) c =
    where_told (λ (a : List ℕ × AttributeDefinition). not (is_some a.1.default) && not (is_set c a.0)) d.attributes
    ∙ any_seen (λ (a : List ℕ × (AttributeKind × Bool)). not a.1.1 && not (is_set c a.0)) (λ (a : List ℕ × AttributeDefinition). (a.0, (a.1.kind, is_some a.1.default))) d.attributes

grouped : (a b c d : Bool) → (a || ((b || c) || d)) ≡ (a || b || c || d)
grouped true b c d = refl
grouped false true c d = refl
grouped false false true d = refl
grouped false false false d = refl

unsuited_told : (outer : Signature) (m : Meant) (number place : ℕ) (c : Composing) → is_some (unsuited_at outer m number place c) ≡ is_unsuited outer (signature_attributes m) c
unsuited_told outer m number place c =
    let own = signature_attributes m in
    or_told (option_map (at.Given number place) (foreign_given own c.given)) _
    ∙ ap₂ (λ a b. a || b) (map_told (at.Given number place) (foreign_given own c.given) ∙ foreign_told own c.given) (
    or_told (option_map (at.Overridden number place) (unsuited_override outer own c)) _
    ∙ ap₂ (λ a b. a || b) (map_told (at.Overridden number place) (unsuited_override outer own c) ∙ override_told outer own c) (
    or_none (option_map (at.Lacking number place) (lacking_attribute m c)) ∙ map_told (at.Lacking number place) (lacking_attribute m c) ∙ lacking_told m c
    )
    )
    ∙ grouped (gives_foreign own c.given) (overrides_foreign outer own c.overrides) (gives_overridden c) (lacks_attribute own c)

composing_told : (ds : Definitions) (d : Definition) (number place : ℕ) (c : Composing) → is_some (refused_composing ds d number place c) ≡ refuses_composing ds d c
composing_told ds d number place c = go (meant_by ds c.constraint)
  where
    go : (o : Option Meant)
        → is_some (option_map_or (λ m. unsuited_at (signature_attributes (declared d)) m number place c) o (Some (at.Composing number place)))
        ≡ option_map_or (λ m. is_unsuited (signature_attributes (declared d)) (signature_attributes m) c) o true
    go None = refl
    go (Some m) = unsuited_told (signature_attributes (declared d)) m number place c

bad_told : (ds : Definitions) (number : ℕ) (d : Definition) → is_some (bad_in ds number d) ≡ (bad_default d || list_any (refuses_composing ds d) d.composing)
bad_told ds number d =
    or_told (option_map (at.Default number) (bad_default_at d)) _
    ∙ ap₂ (λ a b. a || b) (map_told (at.Default number) (bad_default_at d) ∙ where_told (λ (a : List ℕ × AttributeDefinition). is_other_kind a.1.kind a.1.default) d.attributes) (
    first_told (refused_composing ds d number) (refuses_composing ds d) (composing_told ds d number) 0 d.composing
    )

pub definitions_told : (ds : Definitions) → is_some (bad_definition_at ds) ≡ bad_definition ds
definitions_told ds = first_told _ (λ (d : List ℕ × Definition). bad_default d.1 || list_any (refuses_composing ds d.1) d.1.composing) (λ n d. bad_told ds n d.1) 0 ds
