-- Templates: texts with parameters in braces. A text is told by its bytes; all that a template's grammar looks at are ASCII
-- characters, which stand for nothing but themselves in UTF-8: `{` is 123, `}` 125, `\` 92 and `$` 36.
use Rattle.std.specs.Prelude.{◌≡◌, ℕ, ◌==◌, ◌&&◌, ◌||◌, List, [], ◌∷◌, ◌++◌, Bool, true, false, not, length, if◌then◌else◌}
use Rattle.std.specs.List.{list_all}
use mathlib.Core.Logic.{◌⊎◌}

-- a piece of a template: a byte of a plain character, or a parameter by its name
pub data Piece : Type 0 where
  plain : ℕ → Piece
  parameter : List ℕ → Piece

-- an opening or closing brace: `{` or `}`
abbrev pub is_brace : ℕ → Bool
is_brace b = (b == 123) || (b == 125)

-- a byte that may stand in a parameter's name: no brace and no `\`
abbrev pub in_name : ℕ → Bool
in_name b = not (is_brace b || (b == 92))

-- a byte that a backslash before it makes plain: a brace, `\` or `$`
abbrev pub is_special : ℕ → Bool
is_special b = is_brace b || (b == 92) || (b == 36)

-- a text whose first byte passes
abbrev pub begins : (ℕ → Bool) → List ℕ → Bool
begins test [] = false
begins test (b ∷ bs) = test b

-- one or more bytes other than braces and backslashes
abbrev pub is_parameter_name : List ℕ → Bool
is_parameter_name name = not (length name == 0) && list_all (λ b. not (is_brace b || (b == 92))) name

-- a byte that is plain as it stands, in front of what follows: no brace, no `\` in front of a special byte, and no `$` in front of `{`
abbrev pub stands_plain : ℕ → List ℕ → Bool
stands_plain b rest =
    not (is_brace b) && not ((b == 92) && begins is_special rest) && not ((b == 36) && begins (λ c. c == 123) rest)

-- a text that spells a plain byte in front of another text: as it stands, or behind `\`
abbrev pub SpellsPlain : ℕ → List ℕ → List ℕ → Type 0
SpellsPlain b rest text =
    ((text ≡ b ∷ rest) × (stands_plain b rest ≡ true)) ⊎ ((text ≡ 92 ∷ b ∷ rest) × (is_special b ≡ true))

-- the grammar: a text that spells these pieces, one after the other; a parameter in `{` and `}`
abbrev pub SpellsPieces : List Piece → List ℕ → Type 0
SpellsPieces [] text = text ≡ []
SpellsPieces (plain b ∷ ps) text = (rest : List ℕ) × SpellsPlain b rest text × SpellsPieces ps rest
SpellsPieces (parameter name ∷ ps) text =
    (rest : List ℕ) × (text ≡ 123 ∷ name ++ 125 ∷ rest) × (is_parameter_name name ≡ true) × SpellsPieces ps rest

-- a text is a template
abbrev pub IsTemplate : List ℕ → Type 0
IsTemplate text = (ps : List Piece) × SpellsPieces ps text

-- a text as it stands in a template, each special byte behind `\`
abbrev pub escaped : List ℕ → List ℕ
escaped [] = []
escaped (b ∷ bs) = if is_special b then 92 ∷ b ∷ escaped bs else b ∷ escaped bs
