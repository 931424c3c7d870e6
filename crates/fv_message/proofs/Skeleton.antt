-- The pieces that a template becomes before attributes are put in.
use Rattle.std.proofs.Common.{◌≡◌, ℕ, zero, suc, List, [], ◌∷◌, ◌++◌, map, length, drop, Bool, true, false, Option, Some, None, if◌then◌else◌, refl, sym, ap, ◌∙◌}
use Rattle.std.specs.List.{flat_map}
use Rattle.std.specs.Option.{option_map_or}
use Rattle.std.proofs.lemmas.List.Concat.{flat_map-append}
use Rattle.std.proofs.lemmas.List.{append-nil}
use Rattle.fv_datum.specs.Attributes.{Attributes}
use Rattle.fv_graph.specs.Recursion.{value, value_in}
use Rattle.fv_message.specs.Template.{Piece, plain, parameter}
use Rattle.fv_message.specs.Reading.{pieces}
use Rattle.fv_message.specs.Table.{Messages}
use Rattle.fv_message.specs.Numbers.{number_of, is_key, text_at, next_keys}
use Rattle.fv_message.specs.Full.{shown}
use Rattle.fv_message.specs.Evaluated.{first_of, joined, key_joined, key_text, piece_text, full_pieces, full_text}
use Rattle.fv_message.specs.Expanded.{shown_piece, shown_pieces}

abbrev first_pieces : List (List Piece) → List Piece
first_pieces [] = []
first_pieces (ps ∷ made) = ps

abbrev spread : Messages → List Piece → List (List Piece) → List Piece
spread ms [] made = []
spread ms (plain b ∷ ps) made = plain b ∷ spread ms ps made
spread ms (parameter name ∷ ps) made =
    if is_key ms name then first_pieces made ++ spread ms ps (drop 1 made) else parameter name ∷ spread ms ps made

abbrev key_spread : Messages → ℕ → List (List Piece) → List Piece
key_spread ms i made = spread ms (pieces (text_at ms i)) made

-- the pieces that a piece becomes
abbrev piece_spread : Messages → Piece → List Piece
piece_spread ms (plain b) = plain b ∷ []
piece_spread ms (parameter name) = option_map_or (value (key_spread ms) (next_keys ms) (length ms)) (number_of ms name) (parameter name ∷ [])

-- the pieces that a template becomes
abbrev pub template_spread : Messages → List ℕ → List Piece
template_spread ms template = flat_map (piece_spread ms) (pieces template)

module _ (ms : Messages) (attributes : Attributes) where
  spread_shown : (ps : List Piece) (made : List (List Piece)) → joined ms attributes ps (map (λ qs. shown_pieces attributes qs) made) ≡ shown_pieces attributes (spread ms ps made)
  spread_shown [] made = refl
  spread_shown (plain b ∷ ps) made = ap (λ (l : List ℕ). b ∷ l) (spread_shown ps made)
  spread_shown (parameter name ∷ ps) made = go (is_key ms name) made (spread_shown ps)
    where
      go : (b : Bool) (made : List (List Piece)) → ((m : List (List Piece)) → joined ms attributes ps (map (λ qs. shown_pieces attributes qs) m) ≡ shown_pieces attributes (spread ms ps m))
          → (if b then first_of (map (λ qs. shown_pieces attributes qs) made) ++ joined ms attributes ps (drop 1 (map (λ qs. shown_pieces attributes qs) made)) else shown attributes name ++ joined ms attributes ps (map (λ qs. shown_pieces attributes qs) made))
          ≡ shown_pieces attributes (if b then first_pieces made ++ spread ms ps (drop 1 made) else parameter name ∷ spread ms ps made)
      go false m ih = ap (λ (l : List ℕ). shown attributes name ++ l) (ih m)
      go true [] ih = ih []
      go true (qs ∷ m) ih = ap (λ (l : List ℕ). shown_pieces attributes qs ++ l) (ih m) ∙ sym (flat_map-append (shown_piece attributes) qs (spread ms ps m))

  key_shown : (deep i : ℕ) → value_in (key_joined ms attributes) (next_keys ms) deep i ≡ shown_pieces attributes (value_in (key_spread ms) (next_keys ms) deep i)
  key_shown zero i = spread_shown (pieces (text_at ms i)) []
  key_shown (suc deep) i =
      ap (λ (l : List (List ℕ)). joined ms attributes (pieces (text_at ms i)) l) (each (next_keys ms i) (key_shown deep))
      ∙ spread_shown (pieces (text_at ms i)) (map (λ j. value_in (key_spread ms) (next_keys ms) deep j) (next_keys ms i))
    where
      each : (xs : List ℕ) → ((j : ℕ) → value_in (key_joined ms attributes) (next_keys ms) deep j ≡ shown_pieces attributes (value_in (key_spread ms) (next_keys ms) deep j))
          → map (λ j. value_in (key_joined ms attributes) (next_keys ms) deep j) xs
          ≡ map (λ qs. shown_pieces attributes qs) (map (λ j. value_in (key_spread ms) (next_keys ms) deep j) xs)
      each [] ih = refl
      each (x ∷ xs) ih = (λ k. ih x k ∷ each xs ih k)

  piece_shown : (p : Piece) → piece_text ms attributes p ≡ shown_pieces attributes (piece_spread ms p)
  piece_shown (plain b) = refl
  piece_shown (parameter name) = go (number_of ms name)
    where
      go : (o : Option ℕ) → option_map_or (key_text ms attributes) o (shown attributes name)
          ≡ shown_pieces attributes (option_map_or (value (key_spread ms) (next_keys ms) (length ms)) o (parameter name ∷ []))
      go None = sym (append-nil (shown attributes name))
      go (Some i) = key_shown (length ms) i

  pieces_shown : (ps : List Piece) → full_pieces ms attributes ps ≡ shown_pieces attributes (flat_map (piece_spread ms) ps)
  pieces_shown [] = refl
  pieces_shown (p ∷ ps) =
      (λ k. piece_shown p k ++ pieces_shown ps k) ∙ sym (flat_map-append (shown_piece attributes) (piece_spread ms p) (flat_map (piece_spread ms) ps))

-- attributes are put in at the end
pub put_in_last : (ms : Messages) (attributes : Attributes) (template : List ℕ) → full_text ms attributes template ≡ shown_pieces attributes (template_spread ms template)
put_in_last ms attributes template = pieces_shown ms attributes (pieces template)
