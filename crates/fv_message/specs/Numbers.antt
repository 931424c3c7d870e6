-- Messages by the numbers of their keys; for private functions.
use Rattle.std.specs.Prelude.{◌≡◌, ℕ, suc, List, [], ◌∷◌, Bool, true, Option, Some, None, cond, option_map, is_some, slice_get}
use Rattle.std.specs.List.{cons_option}
use Rattle.std.specs.Option.{option_map_or}
use Rattle.std.specs.Str.{bytes_eq}
use Rattle.fv_message.specs.Template.{Piece, plain, parameter, is_parameter_name}
use Rattle.fv_message.specs.Reading.{pieces, is_template}
use Rattle.fv_message.specs.Table.{Messages}

-- the number of a key
abbrev pub number_of : Messages → List ℕ → Option ℕ
number_of [] name = None
number_of (m ∷ ms) name = cond (bytes_eq name m.0) (Some 0) (option_map suc (number_of ms name))

-- a name is a key
abbrev pub is_key : Messages → List ℕ → Bool
is_key ms name = is_some (number_of ms name)

-- the text of the key of a number; empty where there is none
abbrev pub text_at : Messages → ℕ → List ℕ
text_at ms i = option_map_or (λ m. m.1) (slice_get ms i) []

-- each key's text is a template
abbrev pub AreReadable : Messages → Type 0
AreReadable ms = (i : ℕ) → is_template (text_at ms i) ≡ true

-- each key is a parameter's name
abbrev pub AreNamed : Messages → Type 0
AreNamed ms = (name : List ℕ) (i : ℕ) → number_of ms name ≡ Some i → is_parameter_name name ≡ true

-- the numbers of the parameters that are keys, in order
abbrev pub keys_in : Messages → List Piece → List ℕ
keys_in ms [] = []
keys_in ms (plain b ∷ ps) = keys_in ms ps
keys_in ms (parameter name ∷ ps) = cons_option (number_of ms name) (keys_in ms ps)

-- the keys that the text of a key leads to
abbrev pub next_keys : Messages → ℕ → List ℕ
next_keys ms i = keys_in ms (pieces (text_at ms i))
