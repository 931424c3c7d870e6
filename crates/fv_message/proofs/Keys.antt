-- Keys as the nodes of a graph, and what their texts become.
use Rattle.std.proofs.Common.{◌≡◌, ◌<◌, ℕ, zero, suc, List, [], ◌∷◌, ◌++◌, map, length, drop, Bool, true, false, cond, Option, Some, None, option_map, is_some, if◌then◌else◌, bytes_eq, inl, inr, refl, sym, ap, subst, ◌∙◌, arith}
use Rattle.std.specs.List.{cons_option}
use Rattle.std.specs.Option.{option_map_or}
use Rattle.fv_datum.specs.Attributes.{Attributes}
use Rattle.fv_graph.specs.Graph.{IsIn, IsBelow, MeetsCycle}
use Rattle.fv_graph.proofs.Lists.{in_left, in_right}
use Rattle.fv_graph.proofs.Unfolding.{unfolds_at}
use Rattle.fv_message.specs.Template.{Piece, plain, parameter}
use Rattle.fv_message.specs.Reading.{pieces_of, pieces, is_template}
use Rattle.fv_message.specs.Table.{Messages}
use Rattle.fv_message.specs.Numbers.{number_of, text_at, keys_in, next_keys}
use Rattle.fv_message.specs.Full.{shown}
use Rattle.fv_message.specs.Evaluated.{first_of, joined, key_joined, key_text, full_pieces}
use Rattle.fv_message.specs.Parts.{part_pieces, BeginsWith}
use Rattle.fv_message.specs.declared.template.Part.{Part}
use Rattle.fv_message.proofs.Plain.{keys-append}
use Rattle.fv_message.proofs.Seen.{Seen, seen_more}

-- ---- what keys lead to

number_below : (ms : Messages) (name : List ℕ) (i : ℕ) → number_of ms name ≡ Some i → i < length ms
number_below [] name i e = absurd (cc)
number_below (m ∷ ms) name i e = go (bytes_eq name m.0) (number_of ms name) (number_below ms name) e
  where
    go : (b : Bool) (o : Option ℕ) → ((k : ℕ) → o ≡ Some k → k < length ms) → cond b (Some 0) (option_map suc o) ≡ Some i → i < suc (length ms)
    go true o ih is = let z : 0 ≡ i = cc in omega arith
    go false None ih is = absurd (cc)
    go false (Some k) ih is = let h = ih k refl in let s : suc k ≡ i = cc in omega arith

-- the numbers of parameters are keys'
pub keys_below : (ms : Messages) (ps : List Piece) (j : ℕ) → IsIn (keys_in ms ps) j → j < length ms
keys_below ms [] j h = absurd h
keys_below ms (plain b ∷ ps) j h = keys_below ms ps j h
keys_below ms (parameter name ∷ ps) j h = go (number_of ms name) (keys_below ms ps j) (number_below ms name) h
  where
    go : (o : Option ℕ) → (IsIn (keys_in ms ps) j → j < length ms) → ((k : ℕ) → o ≡ Some k → k < length ms) → IsIn (cons_option o (keys_in ms ps)) j → j < length ms
    go None rest f k = rest k
    go (Some i) rest f (inl e) = subst (λ (w : ℕ). w < length ms) e (f i refl)
    go (Some i) rest f (inr k) = rest k

-- a key that leads on is a key
key_start : (ms es : Messages) (i j : ℕ) → IsIn (keys_in ms (pieces (text_at es i))) j → i < length es
key_start ms [] i j h = absurd h
key_start ms (e ∷ es) zero j h = omega arith
key_start ms (e ∷ es) (suc i) j h = let k = key_start ms es i j h in omega arith

pub next_below : (ms : Messages) → IsBelow (next_keys ms) (length ms)
next_below ms i j h = (key_start ms ms i j h, keys_below ms (pieces (text_at ms i)) j h)

-- behind the last key nothing leads on
pub none_behind : (ms : Messages) (i : ℕ) → length ms < suc i → text_at ms i ≡ []
none_behind [] i h = refl
none_behind (m ∷ ms) zero h = absurd (omega arith)
none_behind (m ∷ ms) (suc i) h = none_behind ms i (omega arith)

-- the keys of a part are the template's
pub part_keys : (ms : Messages) (template : List ℕ) (seen : List Piece) (rest behind : List ℕ) (part : Part) (j : ℕ) → is_template template ≡ true → Seen template seen rest
    → BeginsWith rest part behind → IsIn (keys_in ms (part_pieces part)) j → IsIn (keys_in ms (pieces template)) j
part_keys ms template seen rest behind part j is s b h = go (pieces_of behind) (seen_more template seen rest behind part s b)
  where
    here : IsIn (keys_in ms (seen ++ part_pieces part)) j
    here = subst (λ (l : List ℕ). IsIn l j) (sym (keys-append ms seen (part_pieces part))) (in_right (keys_in ms seen) (keys_in ms (part_pieces part)) j h)

    go : (o : Option (List Piece)) → pieces_of template ≡ option_map (λ more. (seen ++ part_pieces part) ++ more) o → IsIn (keys_in ms (pieces template)) j
    go None e = absurd (no (sym is ∙ ap is_some e))
      where
        no : true ≡ false → ⊥
        no f = cc
    go (Some qs) e =
        rw e (subst (λ (l : List ℕ). IsIn l j) (sym (keys-append ms (seen ++ part_pieces part) qs)) (in_left (keys_in ms (seen ++ part_pieces part)) (keys_in ms qs) j here))

-- ---- what keys' texts become

joined_is : (ms : Messages) (attributes : Attributes) (ps : List Piece) → joined ms attributes ps (map (λ j. key_text ms attributes j) (keys_in ms ps)) ≡ full_pieces ms attributes ps
joined_is ms attributes [] = refl
joined_is ms attributes (plain b ∷ ps) = ap (λ (l : List ℕ). b ∷ l) (joined_is ms attributes ps)
joined_is ms attributes (parameter name ∷ ps) = go (number_of ms name) (joined_is ms attributes ps)
  where
    go : (o : Option ℕ) → joined ms attributes ps (map (λ j. key_text ms attributes j) (keys_in ms ps)) ≡ full_pieces ms attributes ps
        → (if is_some o then first_of (map (λ j. key_text ms attributes j) (cons_option o (keys_in ms ps))) ++ joined ms attributes ps (drop 1 (map (λ j. key_text ms attributes j) (cons_option o (keys_in ms ps)))) else shown attributes name ++ joined ms attributes ps (map (λ j. key_text ms attributes j) (cons_option o (keys_in ms ps))))
        ≡ option_map_or (key_text ms attributes) o (shown attributes name) ++ full_pieces ms attributes ps
    go None e = ap (λ (l : List ℕ). shown attributes name ++ l) e
    go (Some i) e = ap (λ (l : List ℕ). key_text ms attributes i ++ l) e

-- a key that meets no cycle becomes what its text becomes
pub key_unfolds : (ms : Messages) (attributes : Attributes) (i : ℕ) → (MeetsCycle (next_keys ms) i → ⊥) → key_text ms attributes i ≡ full_pieces ms attributes (pieces (text_at ms i))
key_unfolds ms attributes i none =
    unfolds_at (key_joined ms attributes) (next_keys ms) (length ms) (next_below ms) i none ∙ joined_is ms attributes (pieces (text_at ms i))
