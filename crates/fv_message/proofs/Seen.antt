-- Templates, as far as they were read.
use Rattle.std.proofs.Common.{◌≡◌, ◌<◌, ◌==◌, ℕ, suc, List, [], ◌∷◌, ◌++◌, length, true, Option, Some, None, option_map, is_some, unwrap_or, refl, sym, ap, ◌∙◌, arith, append_assoc}
use Rattle.std.proofs.lemmas.Bool.{false≢true, ne_eqb}
use Rattle.std.proofs.lemmas.List.{append-nil}
use Rattle.fv_message.specs.Template.{Piece}
use Rattle.fv_message.specs.Reading.{pieces_of, pieces, is_template}
use Rattle.fv_message.specs.Parts.{part_pieces, BeginsWith}
use Rattle.fv_message.specs.declared.template.Part.{Part}

-- a template is read as pieces that were seen, in front of those of the rest
abbrev pub Seen : List ℕ → List Piece → List ℕ → Type 0
Seen template seen rest = pieces_of template ≡ option_map (λ more. seen ++ more) (pieces_of rest)

-- nothing more can be read: the rest is empty or is no template
abbrev pub IsOver : List ℕ → Type 0
IsOver rest = 0 < length rest → pieces_of rest ≡ None

pub seen_none : (template : List ℕ) → Seen template [] template
seen_none template = go (pieces_of template)
  where
    go : (o : Option (List Piece)) → o ≡ option_map (λ more. [] ++ more) o
    go None = refl
    go (Some ps) = refl

pub seen_more : (template : List ℕ) (seen : List Piece) (rest behind : List ℕ) (part : Part) → Seen template seen rest → BeginsWith rest part behind
    → Seen template (seen ++ part_pieces part) behind
seen_more template seen rest behind part s b = s ∙ ap (option_map (λ more. seen ++ more)) b.read ∙ go (pieces_of behind)
  where
    go : (o : Option (List Piece)) → option_map (λ more. seen ++ more) (option_map (λ more. part_pieces part ++ more) o) ≡ option_map (λ more. (seen ++ part_pieces part) ++ more) o
    go None = refl
    go (Some ps) = ap (λ (l : List Piece). Some l) (sym (append_assoc seen (part_pieces part) ps))

pub seen_all : (template : List ℕ) (seen : List Piece) (rest : List ℕ) → Seen template seen rest → length rest ≡ 0 → pieces_of template ≡ Some seen
seen_all template seen [] s e = s ∙ ap (λ (l : List Piece). Some l) (append-nil seen)
seen_all template seen (b ∷ rest) s e = absurd (omega arith)

pub seen_stuck : (template : List ℕ) (seen : List Piece) (rest : List ℕ) → Seen template seen rest → IsOver rest → 0 < length rest → pieces_of template ≡ None
seen_stuck template seen rest s over l = s ∙ ap (option_map (λ more. seen ++ more)) (over l)

-- whether a text is a template, when nothing more can be read
pub template_is : (template : List ℕ) (seen : List Piece) (rest : List ℕ) → Seen template seen rest → IsOver rest → (length rest == 0) ≡ is_template template
template_is template seen [] s over = sym (ap is_some (seen_all template seen [] s refl))
template_is template seen (b ∷ rest) s over =
    ne_eqb (suc (length rest)) 0 (λ e. omega arith) ∙ sym (ap is_some (seen_stuck template seen (b ∷ rest) s over (omega arith)))

-- the pieces of a template, when nothing more can be read
pub seen_whole : (template : List ℕ) (seen : List Piece) (rest : List ℕ) → is_template template ≡ true → Seen template seen rest → IsOver rest → pieces template ≡ seen
seen_whole template seen [] is s over = ap (λ (o : Option (List Piece)). unwrap_or o []) (seen_all template seen [] s refl)
seen_whole template seen (b ∷ rest) is s over =
    absurd (false≢true (sym (ap is_some (seen_stuck template seen (b ∷ rest) s over (omega arith))) ∙ is))
