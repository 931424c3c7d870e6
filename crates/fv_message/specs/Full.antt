-- The text that a template becomes: each parameter that is a key is replaced by what that key's text becomes, and each other by the
-- text of the attribute of its name.
use Rattle.std.specs.Prelude.{◌≡◌, ℕ, List, [], ◌∷◌, ◌++◌, Some, None, codes, if◌then◌else◌}
use Rattle.std.specs.Fmt.{signed_decimal}
use Rattle.std.specs.List.{join_by}
use Rattle.std.specs.Option.{option_map_or}
use mathlib.Core.Logic.{◌⊎◌}
use Rattle.fv_datum.specs.Attributes.{AttributeValue, integer, text, boolean, texts, Attributes}
use Rattle.fv_datum.specs.Lookup.{at_name}
use Rattle.fv_message.specs.Template.{Piece, plain, parameter, SpellsPieces, IsTemplate}
use Rattle.fv_message.specs.Table.{Messages}

-- the text of an attribute's value: an integer in decimal, a text as it is, `true` or `false`, texts as `[a, b]`
abbrev pub attribute_text : AttributeValue → List ℕ
attribute_text (integer n) = signed_decimal n
attribute_text (text s) = s
attribute_text (boolean b) = if b then codes "true" else codes "false"
attribute_text (texts ts) = codes "[" ++ (join_by (λ t. t) (codes ", ") ts ++ codes "]")

-- what stands for a parameter that is no key: the text of the attribute of its name, else the parameter with its braces
abbrev pub shown : Attributes → List ℕ → List ℕ
shown attributes name = option_map_or attribute_text (at_name name attributes) (codes "{" ++ (name ++ codes "}"))

-- pieces become a text: a plain byte stays, a parameter that is a key becomes what the pieces that the key's text spells become, and
-- another parameter becomes what stands for it
pub data Become (ms : Messages) (attributes : Attributes) : List Piece → List ℕ → Type 0 where
  nothing : Become ms attributes [] []
  byte : {b : ℕ} {ps : List Piece} {rest : List ℕ} → Become ms attributes ps rest → Become ms attributes (plain b ∷ ps) (b ∷ rest)
  key : {name template full rest : List ℕ} {qs ps : List Piece} → at_name name ms ≡ Some template → SpellsPieces qs template → Become ms attributes qs full
      → Become ms attributes ps rest → Become ms attributes (parameter name ∷ ps) (full ++ rest)
  other : {name rest : List ℕ} {ps : List Piece} → at_name name ms ≡ None → Become ms attributes ps rest
      → Become ms attributes (parameter name ∷ ps) (shown attributes name ++ rest)

-- a template's full text
abbrev pub IsFullText : Messages → Attributes → List ℕ → List ℕ → Type 0
IsFullText ms attributes template full = (ps : List Piece) × SpellsPieces ps template × Become ms attributes ps full

-- what a text becomes: the full text of a template, and nothing where it is none
abbrev pub IsTextOf : Messages → Attributes → List ℕ → List ℕ → Type 0
IsTextOf ms attributes template full =
    IsFullText ms attributes template full ⊎ ((IsTemplate template → ⊥) × (full ≡ []))
