-- Forms with their groups.
use Rattle.std.proofs.Common.{◌≡◌, ◌++◌, ◌∷◌, ◌∙◌, ℕ, List, [], String, Global, false, map, string_bytes, zip, ap, refl, subst, sym}
use Rattle.fv_bundle.specs.Types.{Declared, name_at}
use Rattle.fv_declare_schema.specs.Declarations.{Declarations}
use Rattle.fv_declare_schema.specs.SchemaView.{form_entry, form_groups_entry}
use Rattle.fv_declare_schema.specs.Tables.{indices}
use Rattle.fv_declare_schema.specs.declared.schema.Form.{Form}
use Rattle.fv_explain.specs.Adding.{Adds}
use Rattle.fv_explain.specs.Explained.{IsFormLine, TellsForm}
use Rattle.fv_explain.specs.Lines.{form_text}
use Rattle.fv_explain.specs.declared.lines.Lines.{Lines}
use Rattle.fv_explain.proofs.Adding.{Completes, adds_then, completes_more}

-- a form with its root, and with its groups
abbrev pub form_of : Declared → String Global × Form → (List ℕ × List ℕ) × (List ℕ × List ℕ)
form_of ts e = (form_entry ts e, form_groups_entry e)

-- two lists that are made of one
pub zip_maps : {X Y Z : Type 0} (f : X → Y) (g : X → Z) (xs : List X) → map (λ x. (f x, g x)) xs ≡ zip (map f xs) (map g xs)
zip_maps f g [] = refl
zip_maps {X} {Y} {Z} f g (x ∷ xs) = ap (λ (l : List (Y × Z)). (f x, g x) ∷ l) (zip_maps f g xs)

-- all forms, by the two lists that the declarations have
pub all_forms : (ts : Declared) (es : List (String Global × Form)) (forms form_groups : List (List ℕ × List ℕ)) → map (form_entry ts) es ≡ forms
    → map form_groups_entry es ≡ form_groups → map (form_of ts) es ≡ zip forms form_groups
all_forms ts es forms form_groups roots groups =
    zip_maps (form_entry ts) form_groups_entry es ∙ ap (λ (l : List (List ℕ × List ℕ)). zip l (map form_groups_entry es)) roots
    ∙ ap (zip forms) groups

-- the line of a form from what it is made of
pub form_line_is : (name root type : List ℕ) (names groups : List (List ℕ)) (reached : List ℕ) → root ≡ type → names ≡ groups
    → form_text name root names reached ≡ form_text name type groups reached
form_line_is name root type names groups reached rs gs = rw (rs, gs) refl

-- the lines that are told of forms where these are left
abbrev pub FormsSoFar : Declarations → Lines → List (String Global × Form) → Lines → Type 0
FormsSoFar s start left lines = (more : List (List ℕ)) × Adds start more lines
    × Completes (TellsForm start.json s.groups) (zip s.forms s.form_groups) (map (form_of s.types) left) more

-- one of those that are left is told
pub form_more : (s : Declarations) (start between after : Lines) (left rest : List (String Global × Form)) (name : String Global) (form : Form)
    (shown text : List ℕ) → left ≡ (name, form) ∷ rest → shown ≡ string_bytes name
    → IsFormLine s.groups ((shown, name_at s.types form.root.index), (shown, indices form.groups.items)) text
    → (told : List ℕ) × Adds between (told ∷ []) after × (between.json ≡ false → told ≡ text)
    → FormsSoFar s start left between → FormsSoFar s start rest after
form_more s start between after left rest name form shown text step is told one was =
    let line : IsFormLine s.groups (form_of s.types (name, form)) text =
    subst (λ (n : List ℕ). IsFormLine s.groups ((n, name_at s.types form.root.index), (n, indices form.groups.items)) text) is told in (
      was.0 ++ one.0 ∷ [],
      adds_then start between after was.0 (one.0 ∷ []) was.1 one.1,
      completes_more (TellsForm start.json s.groups) (zip s.forms s.form_groups) (map (form_of s.types) left) (map (form_of s.types) rest)
          (form_of s.types (name, form)) was.0 one.0 (ap (map (form_of s.types)) step)
          (λ plain. subst (IsFormLine s.groups (form_of s.types (name, form))) (sym (one.2 (was.1.1 ∙ plain))) line) was.2,
    )
