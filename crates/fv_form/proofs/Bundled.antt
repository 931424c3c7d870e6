-- Bundles by their form: a value has no misfit exactly where it is read.
use Rattle.std.proofs.Common.{◌≡◌, ℕ, List, [], ◌∷◌, true, Option, Some, is_some, codes, refl, sym, ◌∙◌}
use Rattle.serde_json.specs.Data as json
use Rattle.serde_json.specs.Find.{as_str, as_object}
use Rattle.fv_datum.specs.Forms.{each_member, map2, required, optional}
use Rattle.fv_datum.specs.Members.{pairs}
use Rattle.fv_model.specs.Draft.{ObjectDraft, BundleDraft, object_draft, bundle_draft_of}
use Rattle.fv_form.specs.Asked.{asked}
use Rattle.fv_form.specs.Commands.{of_bundle, of_object}
use Rattle.fv_form.specs.Entries.{must, may}
use Rattle.fv_form.specs.declared.form_name.FormName.TheVariants as part
use Rattle.fv_form.proofs.Passed.{all_read}
use Rattle.fv_form.proofs.Told.{none_in, map2_read, none2, members_told, must_told, may_told, object_kept, members_kept}
use Rattle.fv_form.proofs.Written.{is_kept, entry_at, in_entries, text_kept}

pub any_kept : (j : json.Data) → is_kept part.Any j ≡ true
any_kept json.null = refl
any_kept (json.boolean b) = refl
any_kept (json.number n) = refl
any_kept (json.string s) = refl
any_kept (json.array js) = refl
any_kept (json.object ms) = refl

given_kept : (j : json.Data) → is_kept part.Given j ≡ is_some (as_object j)
given_kept json.null = refl
given_kept (json.boolean b) = refl
given_kept (json.number n) = refl
given_kept (json.string s) = refl
given_kept (json.array js) = refl
given_kept (json.object ms) = members_told asked part.Any (λ m. Some m) (λ m. any_kept m.1) ms ∙ all_read (pairs ms)

-- ---- an object

abbrev object_made : List ℕ → List ℕ → json.Members → ObjectDraft
object_made name type given = record { name = name; type_name = type; given = given }

abbrev object_in : List ℕ → json.Data → Option ObjectDraft
object_in name j = map2 (object_made name) (required as_str (codes "type") j) (optional json.no_members as_object (codes "fields") j)

object_right : (name : List ℕ) (ms : json.Members) → none_in (in_entries part.Object of_object ms) ≡ is_some (object_in name (json.object ms))
object_right name ms =
    let j = json.object ms in
    let type : Option (List ℕ) = required as_str (codes "type") j in
    let fields : Option json.Members = optional json.no_members as_object (codes "fields") j in
    none2 (entry_at part.Object ms (must (codes "type") part.Text)) (entry_at part.Object ms (may (codes "fields") part.Given)) (is_some type) (is_some fields)
    (must_told asked part.Object (codes "type") part.Text as_str text_kept ms)
    (may_told asked part.Object (codes "fields") part.Given json.no_members as_object given_kept ms)
    ∙ sym (map2_read (object_made name) type fields)

one_kept : (m : List ℕ × json.Data) → is_kept part.Object m.1 ≡ is_some (object_draft m)
one_kept m = object_kept asked part.Object of_object (codes "type" ∷ codes "fields" ∷ []) (object_in m.0) (λ j. refl) (λ ms. refl) (object_right m.0) m.1

objects_kept : (j : json.Data) → is_kept part.Objects j ≡ is_some (each_member object_draft j)
objects_kept = members_kept asked part.Objects part.Object object_draft (λ j. refl) one_kept

-- ---- a bundle

abbrev bundle_made : List ℕ → List ObjectDraft → BundleDraft
bundle_made root objects = record { root = root; objects = objects }

abbrev bundle_in : json.Data → Option BundleDraft
bundle_in j = map2 bundle_made (required as_str (codes "root") j) (required (each_member object_draft) (codes "objects") j)

bundle_right : (ms : json.Members) → none_in (in_entries part.Bundle of_bundle ms) ≡ is_some (bundle_in (json.object ms))
bundle_right ms =
    let j = json.object ms in
    let root : Option (List ℕ) = required as_str (codes "root") j in
    let objects : Option (List ObjectDraft) = required (each_member object_draft) (codes "objects") j in
    none2 (entry_at part.Bundle ms (must (codes "root") part.Text)) (entry_at part.Bundle ms (must (codes "objects") part.Objects)) (is_some root) (is_some objects)
    (must_told asked part.Bundle (codes "root") part.Text as_str text_kept ms)
    (must_told asked part.Bundle (codes "objects") part.Objects (each_member object_draft) objects_kept ms)
    ∙ sym (map2_read bundle_made root objects)

pub bundle_kept : (j : json.Data) → is_kept part.Bundle j ≡ is_some (bundle_draft_of j)
bundle_kept = object_kept asked part.Bundle of_bundle (codes "root" ∷ codes "objects" ∷ []) bundle_in (λ j. refl) (λ ms. refl) bundle_right
