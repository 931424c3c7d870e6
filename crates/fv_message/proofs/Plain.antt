-- What plain pieces become, and pieces one after the other.
use Rattle.std.proofs.Common.{◌≡◌, ◌+◌, ℕ, List, [], ◌∷◌, ◌++◌, map, length, Option, Some, None, refl, ap, arith}
use Rattle.std.specs.List.{cons_option}
use Rattle.fv_datum.specs.Attributes.{Attributes}
use Rattle.fv_message.specs.Template.{Piece, plain, parameter}
use Rattle.fv_message.specs.Table.{Messages}
use Rattle.fv_message.specs.Numbers.{number_of, keys_in}
use Rattle.fv_message.specs.Evaluated.{full_pieces}
use Rattle.fv_message.specs.Measured.{own_bytes}

pub full_plain : (ms : Messages) (attributes : Attributes) (s : List ℕ) → full_pieces ms attributes (map plain s) ≡ s
full_plain ms attributes [] = refl
full_plain ms attributes (b ∷ s) = ap (λ (l : List ℕ). b ∷ l) (full_plain ms attributes s)

pub keys_plain : (ms : Messages) (s : List ℕ) → keys_in ms (map plain s) ≡ []
keys_plain ms [] = refl
keys_plain ms (b ∷ s) = keys_plain ms s

pub own_plain : (ms : Messages) (s : List ℕ) → own_bytes ms (map plain s) ≡ length s
own_plain ms [] = refl
own_plain ms (b ∷ s) = omega (arith, own_plain ms s)

pub keys-append : (ms : Messages) (ps qs : List Piece) → keys_in ms (ps ++ qs) ≡ keys_in ms ps ++ keys_in ms qs
keys-append ms [] qs = refl
keys-append ms (plain b ∷ ps) qs = keys-append ms ps qs
keys-append ms (parameter name ∷ ps) qs = go (number_of ms name) (keys-append ms ps qs)
  where
    go : (o : Option ℕ) → keys_in ms (ps ++ qs) ≡ keys_in ms ps ++ keys_in ms qs → cons_option o (keys_in ms (ps ++ qs)) ≡ cons_option o (keys_in ms ps) ++ keys_in ms qs
    go None e = e
    go (Some i) e = ap (λ (l : List ℕ). i ∷ l) e

pub own-append : (ms : Messages) (ps qs : List Piece) → own_bytes ms (ps ++ qs) ≡ own_bytes ms ps + own_bytes ms qs
own-append ms [] qs = omega arith
own-append ms (plain b ∷ ps) qs = omega (arith, own-append ms ps qs)
own-append ms (parameter name ∷ ps) qs = omega (arith, own-append ms ps qs)
