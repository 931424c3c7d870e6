-- A place of a flawed template is told exactly where some template has the flaw.
use Rattle.std.proofs.Common.{◌≡◌, ◌↔◌, ◌++◌, ◌||◌, inl, inr, ℕ, List, [], ◌∷◌, Bool, true, false, IsTrue, not, Option, Some, None, is_some, filter_map, refl, sym, ap, ap₂, subst, ◌∙◌, true≢false}
use Rattle.std.specs.List.{cons_option, flat_map, list_any}
use Rattle.std.specs.Option.{option_map_or}
use Rattle.fv_declare_definition.specs.Definitions.{Composing, Definition}
use Rattle.fv_declare_draft.specs.AllUses.{DraftUse, uses_in}
use Rattle.fv_declare_draft.specs.Drafts.{Drafted}
use Rattle.fv_first.specs.First.{first_in}
use Rattle.fv_first.proofs.Laws.{or_told, map_told, when_told, where_told, first_told}
use Rattle.fv_message.specs.Template.{IsTemplate}
use Rattle.fv_message.specs.Reading.{is_template}
use Rattle.fv_message.proofs.Becoming.{told_template, template_told}
use Rattle.fv_declare_judging.specs.Templates.{use_templates, own_templates, definition_templates, templates, HasMisspelt}
use Rattle.fv_declare_judging.specs.WordingPlaces.{has_flaw, is_flawed, flawed_use, flawed_composing, flawed_definition, flawed_template}
use Rattle.fv_declare_judging.specs.declared.templates.TemplateFlaw.{TemplateFlaw}
use Rattle.fv_declare_judging.specs.declared.templates.TemplateFlaw.TheVariants.{Misspelt}

module _ (test : List ℕ → Bool) where
  any_both : (ts us : List (List ℕ)) → list_any test (ts ++ us) ≡ (list_any test ts || list_any test us)
  any_both [] us = refl
  any_both (t ∷ ts) us = go (test t) (any_both ts us)
    where
      go : (b : Bool) → list_any test (ts ++ us) ≡ (list_any test ts || list_any test us) → (b || list_any test (ts ++ us)) ≡ ((b || list_any test ts) || list_any test us)
      go true h = refl
      go false h = h

  any_first : (o : Option (List ℕ)) (ts : List (List ℕ)) → list_any test (cons_option o ts) ≡ (option_map_or test o false || list_any test ts)
  any_first None ts = refl
  any_first (Some t) ts = refl

  any_told : {X : Type 0} (of : X → Option (List ℕ)) (xs : List X) → list_any test (filter_map of xs) ≡ list_any (λ x. option_map_or test (of x) false) xs
  any_told of [] = refl
  any_told of (x ∷ xs) = any_first (of x) (filter_map of xs) ∙ ap (λ b. option_map_or test (of x) false || b) (any_told of xs)

  any_flat : {X : Type 0} (of : X → List (List ℕ)) (xs : List X) → list_any test (flat_map of xs) ≡ list_any (λ x. list_any test (of x)) xs
  any_flat of [] = refl
  any_flat of (x ∷ xs) = any_both (of x) (flat_map of xs) ∙ ap (λ b. list_any test (of x) || b) (any_flat of xs)

module _ (flaw : TemplateFlaw) where
  uses_told : (us : List DraftUse) → is_some (flawed_use flaw us) ≡ list_any (has_flaw flaw) (use_templates us)
  uses_told us = first_told _ (λ u. is_flawed flaw u.draft.message) (λ n u. when_told (is_flawed flaw u.draft.message) _) 0 us ∙ sym (any_told (has_flaw flaw) (λ u. u.draft.message) us)

  definition_told : (n : ℕ) (c : List ℕ × Definition) → is_some (flawed_definition flaw n c) ≡ list_any (has_flaw flaw) (own_templates c.1)
  definition_told n c = go (is_flawed flaw c.1.message) refl
    where
      parts : is_some (flawed_composing flaw c.1.composing) ≡ list_any (has_flaw flaw) (filter_map (λ p. p.message) c.1.composing)
      parts = where_told (λ (p : Composing). is_flawed flaw p.message) c.1.composing ∙ sym (any_told (has_flaw flaw) (λ (p : Composing). p.message) c.1.composing)

      all : list_any (has_flaw flaw) (own_templates c.1) ≡ (is_flawed flaw c.1.message || list_any (has_flaw flaw) (filter_map (λ p. p.message) c.1.composing))
      all = any_first (has_flaw flaw) c.1.message (filter_map (λ p. p.message) c.1.composing)

      go : (b : Bool) → is_flawed flaw c.1.message ≡ b → is_some (flawed_definition flaw n c) ≡ list_any (has_flaw flaw) (own_templates c.1)
      go true is = rw (all, is) refl
      go false is = rw (all, is) (map_told _ (flawed_composing flaw c.1.composing) ∙ parts)

  pub flawed_told : (d : Drafted) → is_some (flawed_template flaw (uses_in d.types) d.definitions) ≡ list_any (has_flaw flaw) (templates d)
  flawed_told d =
      or_told (flawed_use flaw (uses_in d.types)) (first_in (flawed_definition flaw) d.definitions)
      ∙ ap₂ (λ a b. a || b) (uses_told (uses_in d.types))
      (first_told (flawed_definition flaw) (λ c. list_any (has_flaw flaw) (own_templates c.1)) definition_told 0 d.definitions ∙ sym (any_flat (has_flaw flaw) (λ (c : List ℕ × Definition). own_templates c.1) d.definitions))
      ∙ sym (any_both (has_flaw flaw) (use_templates (uses_in d.types)) (definition_templates d.definitions))

-- some text is no template, told as a test
some_misspelt : (ts : List (List ℕ)) → IsTrue (list_any (has_flaw Misspelt) ts) ↔ HasMisspelt ts
some_misspelt [] = (λ h. cc, λ h. absurd h.1)
some_misspelt (t ∷ ts) = go (is_template t) (told_template t (is_template t) refl) (some_misspelt ts)
  where
    go : (b : Bool) → IsTrue b ↔ IsTemplate t → IsTrue (list_any (has_flaw Misspelt) ts) ↔ HasMisspelt ts → IsTrue (not b || list_any (has_flaw Misspelt) ts) ↔ HasMisspelt (t ∷ ts)
    go true is rest = (
      λ h. let some = rest.0 h in (some.0, inr some.1, some.2),
      λ h. elim h.1 [ inl e ↦ absurd (h.2 (subst IsTemplate e (is.0 refl))) | inr more ↦ rest.1 (h.0, more, h.2) ],
    )
    go false is rest = (λ h. (t, inl refl, λ yes. true≢false (sym (is.1 yes))), λ h. refl)

pub misspelt_told : (d : Drafted) → IsTrue (is_some (flawed_template Misspelt (uses_in d.types) d.definitions)) ↔ HasMisspelt (templates d)
misspelt_told d = rw (flawed_told Misspelt d) (some_misspelt (templates d))

-- what is checked is a template
pub checked : (text : List ℕ) (told : Bool) → IsTrue told ↔ IsTemplate text → not told ≡ has_flaw Misspelt text
checked text told is = ap not (template_told text told is)
