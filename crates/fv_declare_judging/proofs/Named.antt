-- A place of a name is told exactly where some name is bad, or unknown.
use Rattle.std.proofs.Common.{◌≡◌, ◌||◌, ℕ, List, [], ◌∷◌, Bool, true, false, not, if◌then◌else◌, Option, Some, None, option_map, is_some, refl, sym, ap₂, ◌∙◌}
use Rattle.fv_constraint.specs.Meanings.{meant_by, composes_unknown}
use Rattle.fv_datum.specs.Lookup.{at_name}
use Rattle.fv_datum.specs.Name.{names}
use Rattle.fv_datum.specs.Outcomes.{first}
use Rattle.fv_declare_definition.specs.Definitions.{Composing, Definition, Definitions}
use Rattle.fv_declare_draft.specs.AllUses.{DraftUse, uses_in}
use Rattle.fv_declare_draft.specs.Drafts.{FieldDraft, TypeDraft, FormDraft, Drafted}
use Rattle.fv_first.specs.First.{first_in, first_of}
use Rattle.fv_first.proofs.Laws.{map_told, when_told, where_told, first_told, inner_told}
use Rattle.fv_bundle.specs.Types.{Declared, DeclaredFields, TypeUse, has_unknown_type, is_unknown, types_fault}
use Rattle.fv_bundle.specs.declared.fault.TypesFault.TheVariants as types
use Rattle.fv_declare_judging.specs.Conditions as condition
use Rattle.fv_declare_judging.specs.Judging.{name_conditions}
use Rattle.fv_declare_judging.specs.NamePlaces as place
use Rattle.fv_declare_judging.specs.Naming as naming
use Rattle.fv_declare_judging.specs.Naming.{is_bad_type, is_bad_definition, is_bad_group}
use Rattle.fv_declare_judging.specs.Types.{types_declared}
use Rattle.fv_declare_judging.specs.declared.fault.DeclFault.TheVariants.{BadName, UnknownName}
use Rattle.fv_declare_judging.specs.declared.placed.At.{At}

-- one place, else the places inside
either_told : {P Q : Type 0} (b : Bool) (p : P) (at : Q → P) (inside : Option Q) (test : Bool) → is_some inside ≡ test → is_some (if b then Some p else option_map at inside) ≡ (b || test)
either_told true p at inside test h = refl
either_told false p at inside test h = map_told at inside ∙ h

type_told : (n : ℕ) (t : TypeDraft) → is_some (place.bad_type n t) ≡ is_bad_type t
type_told n t = either_told _ _ _ (place.bad_field t.fields) _ (where_told (λ (f : FieldDraft). not (names f.name)) t.fields)

definition_told : (n : ℕ) (c : List ℕ × Definition) → is_some (place.bad_definition n c) ≡ is_bad_definition c
definition_told n c = either_told _ _ _ (place.bad_attribute c.1.attributes) _ (where_told (λ a. not (names a.0)) c.1.attributes)

pub four_told : {P : Type 0} (a b c e : Option P) → is_some (first_of (a ∷ b ∷ c ∷ e ∷ [])) ≡ (((is_some a || is_some b) || is_some c) || is_some e)
four_told (Some a) b c e = refl
four_told None (Some b) c e = refl
four_told None None (Some c) e = refl
four_told None None None (Some e) = refl
four_told None None None None = refl

pub bad_told : (d : Drafted) → is_some (place.bad_name d) ≡ naming.bad_name d
unfolding naming.bad_name
bad_told d =
    four_told (first_in place.bad_type d.types) (place.bad_form d.forms) (first_in place.bad_definition d.definitions) (place.bad_group d.types d.groups)
    ∙ ap₂ (λ (a b : Bool). a || b)
    (ap₂ (λ (a b : Bool). a || b)
    (ap₂ (λ (a b : Bool). a || b)
    (first_told place.bad_type is_bad_type type_told 0 d.types)
    (first_told _ (λ (f : FormDraft). not (names f.name)) (λ n f. when_told (not (names f.name)) _) 0 d.forms))
    (first_told place.bad_definition is_bad_definition definition_told 0 d.definitions))
    (first_told _ (is_bad_group d.types) (λ n g. when_told (is_bad_group d.types g) _) 0 d.groups)

-- the first field that refers to no type
reference_told : (ts : Declared) → is_some (place.unknown_reference ts) ≡ has_unknown_type ts
reference_told ts = map_told _ _ ∙ inner_told _ (λ (t : List ℕ × DeclaredFields) (f : List ℕ × TypeUse). is_unknown ts f.1) (λ (t : List ℕ × DeclaredFields). t.1) ts

swapped : (a b c e : Bool) → (((a || b) || c) || e) ≡ (((a || b) || e) || c)
swapped true b c e = refl
swapped false true c e = refl
swapped false false true true = refl
swapped false false true false = refl
swapped false false false true = refl
swapped false false false false = refl

pub unknown_told : (d : Drafted) → is_some (place.unknown_name (types_declared d) d.definitions (uses_in d.types) d.forms) ≡ condition.unknown_name d
unfolding condition.unknown_name
unknown_told d =
    let ts = types_declared d in
    let ds = d.definitions in
    four_told (place.unknown_use ds (uses_in d.types)) (place.unknown_part ds) (place.unknown_root ts d.forms) (place.unknown_reference ts)
    ∙ ap₂ (λ (a b : Bool). a || b)
    (ap₂ (λ (a b : Bool). a || b)
    (ap₂ (λ (a b : Bool). a || b)
    (first_told _ (λ (u : DraftUse). not (is_some (meant_by ds u.draft.constraint))) (λ n u. when_told (not (is_some (meant_by ds u.draft.constraint))) _) 0 (uses_in d.types))
    (map_told _ _ ∙ inner_told _ (λ (c : List ℕ × Definition) (p : Composing). not (is_some (meant_by ds p.constraint))) (λ (c : List ℕ × Definition). c.1.composing) ds))
    (first_told _ (λ (f : FormDraft). not (is_some (at_name f.root ts))) (λ n f. when_told (not (is_some (at_name f.root ts))) _) 0 d.forms))
    (reference_told ts)
    ∙ swapped (condition.unknown_constraint d) (composes_unknown ds) (condition.unknown_root ts d.forms) (has_unknown_type ts)

-- ---- the first fault of names

pub bad_first : (d : Drafted) → is_some (place.bad_name d) ≡ true → first (name_conditions d) ≡ Some BadName
bad_first d is = let bad : naming.bad_name d ≡ true = sym (bad_told d) ∙ is in rw bad refl

module _ (d : Drafted) (good : is_some (place.bad_name d) ≡ false) where
  good_names : naming.bad_name d ≡ false
  good_names = sym (bad_told d) ∙ good

  pub unknown_first : is_some (place.unknown_name (types_declared d) d.definitions (uses_in d.types) d.forms) ≡ true → first (name_conditions d) ≡ Some UnknownName
  unknown_first is = let unknown : condition.unknown_name d ≡ true = sym (unknown_told d) ∙ is in rw (good_names, unknown) refl

  pub none_first : is_some (place.unknown_name (types_declared d) d.definitions (uses_in d.types) d.forms) ≡ false → first (name_conditions d) ≡ None
  none_first is = let known : condition.unknown_name d ≡ false = sym (unknown_told d) ∙ is in rw (good_names, known) refl

-- ---- the names that are looked for before those of references

abbrev pub outside : Declared → Definitions → List DraftUse → List FormDraft → Option At
outside ts ds us fs = first_of (place.unknown_use ds us ∷ place.unknown_part ds ∷ place.unknown_root ts fs ∷ [])

three_some : {P : Type 0} (a b c e : Option P) (p : P) → Some p ≡ first_of (a ∷ b ∷ c ∷ []) → is_some (first_of (a ∷ b ∷ c ∷ e ∷ [])) ≡ true
three_some (Some a) b c e p is = refl
three_some None (Some b) c e p is = refl
three_some None None (Some c) e p is = refl
three_some None None None e p is = cc

three_none : {P : Type 0} (a b c e : Option P) → None ≡ first_of (a ∷ b ∷ c ∷ []) → is_some (first_of (a ∷ b ∷ c ∷ e ∷ [])) ≡ is_some e
three_none (Some a) b c e is = cc
three_none None (Some b) c e is = cc
three_none None None (Some c) e is = cc
three_none None None None (Some e) is = refl
three_none None None None None is = refl

none_unknown : (unknown many : Bool) → first ((unknown, types.UnknownType) ∷ (many, types.TooLarge) ∷ []) ≡ None → unknown ≡ false
none_unknown true many e = cc
none_unknown false many e = refl

large_known : (unknown many : Bool) → first ((unknown, types.UnknownType) ∷ (many, types.TooLarge) ∷ []) ≡ Some types.TooLarge → unknown ≡ false
large_known true many e = cc
large_known false many e = refl

some_unknown : (unknown many : Bool) → first ((unknown, types.UnknownType) ∷ (many, types.TooLarge) ∷ []) ≡ Some types.UnknownType → unknown ≡ true
some_unknown true many e = refl
some_unknown false true e = cc
some_unknown false false e = cc

module _ (d : Drafted) (good : is_some (place.bad_name d) ≡ false) where
  pub found_outside : (p : At) → Some p ≡ outside (types_declared d) d.definitions (uses_in d.types) d.forms → first (name_conditions d) ≡ Some UnknownName
  found_outside p is = unknown_first d good (three_some (place.unknown_use d.definitions (uses_in d.types)) (place.unknown_part d.definitions) (place.unknown_root (types_declared d) d.forms) (place.unknown_reference (types_declared d)) p is)

  module _ (none : None ≡ outside (types_declared d) d.definitions (uses_in d.types) d.forms) where
    told : is_some (place.unknown_name (types_declared d) d.definitions (uses_in d.types) d.forms) ≡ has_unknown_type (types_declared d)
    told = three_none (place.unknown_use d.definitions (uses_in d.types)) (place.unknown_part d.definitions) (place.unknown_root (types_declared d) d.forms) (place.unknown_reference (types_declared d)) none ∙ reference_told (types_declared d)

    pub all_named : types_fault (types_declared d) ≡ None → first (name_conditions d) ≡ None
    all_named is = none_first d good (told ∙ none_unknown _ _ is)

    pub named_large : types_fault (types_declared d) ≡ Some types.TooLarge → first (name_conditions d) ≡ None
    named_large is = none_first d good (told ∙ large_known _ _ is)

    pub unknown_type : types_fault (types_declared d) ≡ Some types.UnknownType → first (name_conditions d) ≡ Some UnknownName
    unknown_type is = unknown_first d good (told ∙ some_unknown _ _ is)
