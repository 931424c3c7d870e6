-- What a template begins with.
use Rattle.std.specs.Prelude.{◌≡◌, ◌<◌, ◌≤◌, ◌+◌, ℕ, List, [], ◌∷◌, ◌++◌, map, length, option_map, Option, None, MatchOption}
use Rattle.std.specs.Borrow.{Bor}
use Rattle.fv_message.specs.Template.{Piece, plain, parameter}
use Rattle.fv_message.specs.Reading.{pieces_of}
use Rattle.fv_message.specs.declared.template.Part.{Part}
use Rattle.fv_message.specs.declared.template.Part.TheVariants.{Plain, Parameter}

-- the pieces that a part stands for
abbrev pub part_pieces : Part → List Piece
part_pieces (Plain text) = map plain text.now
part_pieces (Parameter name) = parameter name.now ∷ []

-- how many bytes a part has in a text in which each parameter stands with its braces
abbrev pub part_len : Part → ℕ
part_len (Plain text) = length text.now
part_len (Parameter name) = length name.now + 2

-- a template begins with a part, in front of the rest
pub record BeginsWith (template : List ℕ) (part : Part) (rest : List ℕ) : Type 0 where
  pub read : pieces_of template ≡ option_map (λ more. part_pieces part ++ more) (pieces_of rest)
  pub shorter : length rest < length template
  pub room : part_len part + length rest ≤ length template

-- the part that a template begins with: none where it is empty or isn't one
abbrev pub FirstPart : List ℕ → Option (Part × Bor (List ℕ)) → Type 0
FirstPart template found =
    MatchOption found (0 < length template → pieces_of template ≡ None) (λ p. BeginsWith template p.0 p.1.now)
