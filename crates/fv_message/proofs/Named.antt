-- Keys are names of parameters, so that a template that is one key in braces becomes what the key's text becomes.
use Rattle.std.proofs.Common.{◌≡◌, ◌≤◌, ◌-◌, ℕ, zero, suc, List, [], ◌∷◌, ◌++◌, length, get_or, take, Bool, true, false, cond, not, ◌||◌, Option, Some, None, option_map, unwrap_or, IfSome, bytes_eq, refl, sym, ap, subst, ◌∙◌, arith}
use Rattle.std.specs.List.{list_all, slice_range}
use Rattle.std.specs.Option.{option_map_or}
use Rattle.std.proofs.lemmas.Bool.{and_parts, or_parts, not-false}
use Rattle.std.proofs.lemmas.List.{append-nil}
use Rattle.std.proofs.lemmas.Slice.Eq.{bytes_eq-Decides}
use Rattle.fv_datum.specs.Attributes.{Attributes}
use Rattle.fv_message.specs.BuiltIn.{built_in_texts, built_in_messages}
use Rattle.fv_message.specs.Full.{shown}
use Rattle.fv_message.specs.Evaluated.{key_text, piece_text, full_pieces, full_text}
use Rattle.fv_message.specs.Judging.{is_misspelt}
use Rattle.fv_message.specs.Table.{Messages, all_messages}
use Rattle.fv_message.specs.Numbers.{number_of, AreNamed}
use Rattle.fv_message.specs.Template.{Piece, parameter, is_parameter_name}
use Rattle.fv_message.specs.Reading.{is_template, pieces_of}
use Rattle.fv_message.proofs.Built.{all_passing}
use Rattle.fv_message.proofs.Pieces.{parameter_read}

-- ---- keys that are names

-- a message's key is a parameter's name
abbrev is_named : List ℕ × List ℕ → Bool
is_named m = is_parameter_name m.0

built_in_named : list_all is_named built_in_messages ≡ true
unfolding built_in_texts
built_in_named = refl

user_named : (user : Messages) → is_misspelt user ≡ false → list_all is_named user ≡ true
user_named [] e = refl
user_named (m ∷ user) e =
    let parts = or_parts (not (is_template m.1) || not (is_parameter_name m.0)) (is_misspelt user) e in
    let first = not-false (is_parameter_name m.0) (or_parts (not (is_template m.1)) (not (is_parameter_name m.0)) parts.0).1 in
    rw (first, user_named user parts.1) refl

named_at : (ms : Messages) → list_all is_named ms ≡ true → AreNamed ms
named_at [] e name i found = absurd (cc)
named_at (m ∷ ms) e name i found = go (bytes_eq name m.0) refl (number_of ms name) (named_at ms parts.1 name) found
  where
    parts : (is_parameter_name m.0 ≡ true) × (list_all is_named ms ≡ true)
    parts = and_parts (is_parameter_name m.0) (list_all is_named ms) e

    go : (b : Bool) → bytes_eq name m.0 ≡ b → (o : Option ℕ) → ((j : ℕ) → o ≡ Some j → is_parameter_name name ≡ true) → cond b (Some 0) (option_map suc o) ≡ Some i → is_parameter_name name ≡ true
    go true v o rest f = ap is_parameter_name ((bytes_eq-Decides name m.0).0 v) ∙ parts.0
    go false v None rest f = absurd (cc)
    go false v (Some j) rest f = rest j refl

-- where no user's message is misspelt, each key is a parameter's name
pub all_named : (user : Messages) → is_misspelt user ≡ false → AreNamed (all_messages user)
all_named user e = named_at (all_messages user) (all_passing is_named built_in_messages user (user_named user e) built_in_named)

-- ---- a key alone

-- a text without its last byte, and that byte
closed : (s : List ℕ) (n : ℕ) → length s ≡ suc n → get_or s n 0 ≡ 125 → s ≡ take n s ++ 125 ∷ []
closed [] n e f = absurd (omega (arith, e))
closed (b ∷ []) zero e f = ap (λ (x : ℕ). x ∷ []) f
closed (b ∷ []) (suc n) e f = absurd (omega (arith, e))
closed (b ∷ c ∷ s) zero e f = absurd (omega (arith, e))
closed (b ∷ c ∷ s) (suc n) e f = ap (λ (l : List ℕ). b ∷ l) (closed (c ∷ s) n (omega (arith, e)) f)

-- a key in braces
alone : (ms : Messages) (attributes : Attributes) (t name : List ℕ) (i : ℕ) → AreNamed ms → 2 ≤ length t → get_or t 0 0 ≡ 123 → get_or t (length t - 1) 0 ≡ 125
    → name ≡ slice_range t 1 (length t - 1) → number_of ms name ≡ Some i → full_text ms attributes t ≡ key_text ms attributes i
alone ms attributes [] name i named l a z n found = absurd (omega (arith, l))
alone ms attributes (b ∷ []) name i named l a z n found = absurd (omega (arith, l))
alone ms attributes (b ∷ c ∷ s) name i named l a z n found =
    let last : length (b ∷ c ∷ s) - 1 ≡ suc (length s) = omega arith in
    let less : suc (length s) - 1 ≡ length s = omega arith in
    let z' = subst (λ (k : ℕ). get_or (b ∷ c ∷ s) k 0 ≡ 125) last z in
    let n' = subst (λ (k : ℕ). name ≡ take k (c ∷ s)) less (subst (λ (k : ℕ). name ≡ slice_range (b ∷ c ∷ s) 1 k) last n) in
    let whole : c ∷ s ≡ name ++ 125 ∷ [] = closed (c ∷ s) (length s) refl z' ∙ ap (λ (l : List ℕ). l ++ 125 ∷ []) (sym n') in
    let same : b ∷ c ∷ s ≡ 123 ∷ (name ++ 125 ∷ []) = (λ k. a k ∷ whole k) in
    let read : pieces_of (b ∷ c ∷ s) ≡ Some (parameter name ∷ []) = ap pieces_of same ∙ parameter_read name [] (named name i found) in
    ap (λ (o : Option (List Piece)). full_pieces ms attributes (unwrap_or o [])) read
    ∙ append-nil (piece_text ms attributes (parameter name))
    ∙ ap (λ (o : Option ℕ). option_map_or (key_text ms attributes) o (shown attributes name)) found

-- the same, of what was found for it
pub alone_found : (ms : Messages) (t name : List ℕ) (found : Option ℕ) → AreNamed ms → 2 ≤ length t → get_or t 0 0 ≡ 123 → get_or t (length t - 1) 0 ≡ 125
    → name ≡ slice_range t 1 (length t - 1) → found ≡ number_of ms name → IfSome found (λ i. (attributes : Attributes) → full_text ms attributes t ≡ key_text ms attributes i)
alone_found ms t name None named l a z n e = tt
alone_found ms t name (Some i) named l a z n e = λ attributes. alone ms attributes t name i named l a z n (sym e)
