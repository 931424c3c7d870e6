-- The full text of a template as a function, which the full replacement is proved to be where no key leads to itself; for private
-- functions, and for laws.
use Rattle.std.specs.Prelude.{ℕ, List, [], ◌∷◌, ◌++◌, length, drop, if◌then◌else◌}
use Rattle.std.specs.List.{flat_map}
use Rattle.std.specs.Option.{option_map_or}
use Rattle.fv_datum.specs.Attributes.{Attributes}
use Rattle.fv_graph.specs.Recursion.{value}
use Rattle.fv_message.specs.Template.{Piece, plain, parameter}
use Rattle.fv_message.specs.Reading.{pieces}
use Rattle.fv_message.specs.Table.{Messages}
use Rattle.fv_message.specs.Numbers.{number_of, is_key, text_at, next_keys}
use Rattle.fv_message.specs.Full.{shown}

-- the first of some texts; empty where there is none
abbrev pub first_of : List (List ℕ) → List ℕ
first_of [] = []
first_of (t ∷ ts) = t

-- pieces put together, with the texts of the parameters that are keys, in order
abbrev pub joined : Messages → Attributes → List Piece → List (List ℕ) → List ℕ
joined ms attributes [] made = []
joined ms attributes (plain b ∷ ps) made = b ∷ joined ms attributes ps made
joined ms attributes (parameter name ∷ ps) made =
    if is_key ms name
    then first_of made ++ joined ms attributes ps (drop 1 made)
    else shown attributes name ++ joined ms attributes ps made

-- what a key's text becomes, put together from what the keys become that it leads to
abbrev pub key_joined : Messages → Attributes → ℕ → List (List ℕ) → List ℕ
key_joined ms attributes i made = joined ms attributes (pieces (text_at ms i)) made

-- what a key's text becomes, where it meets no cycle of keys
abbrev pub key_text : Messages → Attributes → ℕ → List ℕ
key_text ms attributes i = value (key_joined ms attributes) (next_keys ms) (length ms) i

-- what a piece becomes
abbrev pub piece_text : Messages → Attributes → Piece → List ℕ
piece_text ms attributes (plain b) = b ∷ []
piece_text ms attributes (parameter name) = option_map_or (key_text ms attributes) (number_of ms name) (shown attributes name)

-- what pieces become
abbrev pub full_pieces : Messages → Attributes → List Piece → List ℕ
full_pieces ms attributes ps = flat_map (piece_text ms attributes) ps

-- what a template becomes
abbrev pub full_text : Messages → Attributes → List ℕ → List ℕ
full_text ms attributes template = full_pieces ms attributes (pieces template)
