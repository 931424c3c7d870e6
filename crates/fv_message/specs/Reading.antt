-- How a template is read, byte by byte; for private functions, and for the law that it is read as what it spells.
use Rattle.std.specs.Prelude.{ℕ, ◌==◌, ◌&&◌, ◌||◌, List, [], ◌∷◌, ◌++◌, Bool, true, false, Option, Some, None, option_map, unwrap_or, is_some}
use Rattle.fv_message.specs.Template.{Piece, plain, parameter, begins, in_name, is_special, is_parameter_name, stands_plain}

-- a text whose first byte is plain as it stands
abbrev pub begins_plain : List ℕ → Bool
begins_plain [] = false
begins_plain (b ∷ bs) = stands_plain b bs

-- where a reader of a template stands: outside of parameters, behind a backslash, or in a parameter, with the name so far
pub data Standing : Type 0 where
  outside : Standing
  escaping : Standing
  naming : List ℕ → Standing

-- pieces with one more in front of them, if there are any
abbrev pub put : Piece → Option (List Piece) → Option (List Piece)
put p ps = option_map (λ more. p ∷ more) ps

-- the pieces that are read from here on, if the text goes on as a template
abbrev pub read_from : Standing → List ℕ → Option (List Piece)
read_from outside [] = Some []
read_from escaping [] = Some (plain 92 ∷ [])
read_from (naming name) [] = None
read_from outside (b ∷ bs) =
    elim (b == 92) [
      | true ↦ read_from escaping bs
      | false ↦ elim (b == 123) [
        | true ↦ read_from (naming []) bs
        | false ↦ elim ((b == 125) || ((b == 36) && begins (λ c. c == 123) bs)) [
          | true ↦ None
          | false ↦ put (plain b) (read_from outside bs)
        ]
      ]
    ]
read_from escaping (b ∷ bs) =
    elim (is_special b) [
      | true ↦ put (plain b) (read_from outside bs)
      | false ↦ put (plain 92) (put (plain b) (read_from outside bs))
    ]
read_from (naming name) (b ∷ bs) =
    elim ((b == 125) && is_parameter_name name) [
      | true ↦ put (parameter name) (read_from outside bs)
      | false ↦ elim (in_name b) [ true ↦ read_from (naming (name ++ b ∷ [])) bs | false ↦ None ]
    ]

-- the pieces of a template, if the text is one: those that it spells
abbrev pub pieces_of : List ℕ → Option (List Piece)
pieces_of template = read_from outside template

-- a text is a template
abbrev pub is_template : List ℕ → Bool
is_template template = is_some (pieces_of template)

-- the pieces of a template; none where the text isn't one
abbrev pub pieces : List ℕ → List Piece
pieces template = unwrap_or (pieces_of template) []
