-- A text begins with one node at most.
use Rattle.std.proofs.Common.{◌≡◌, ℕ, ◌<◌, ◌^◌, Bool, true, false, cond, not, ◌&&◌, ◌==◌, nat_lt, nat_le, List, [], ◌∷◌, ◌++◌, length, get_or, drop, refl, sym, ap, ◌∙◌, subst, inl, inr, arith, rules, append_assoc, decimal}
use Rattle.std.specs.Option.{unwrap_or}
use Rattle.std.specs.List.{list_all, take_while}
use Rattle.std.specs.Char.{is_ascii_digit}
use Rattle.std.specs.Str.Parse.{digits_value}
use Rattle.std.proofs.lemmas.Bool.{and_parts, cases_eq, ne_eqb, ltb-true, false≢true}
use Rattle.std.proofs.lemmas.List.{append_cancel_left}
use Rattle.std.proofs.lemmas.List.Sums.{take_while-cons}
use Rattle.std.proofs.lemmas.Fmt.{digits_decimal, digits_value-decimal, decimal_nonempty}
use Rattle.std.proofs.lemmas.Str.Parse.{IsNumeralModel, numerals_by_value}
use Rattle.json.specs.Text.{content, plain}
use Rattle.json.specs.Print.{escape}
use Rattle.json.proofs.Printed.Strings.{content-escape}
use Rattle.fv_datum.specs.Name.{names, begins_name, continues_name}
use Rattle.fv_path.specs.Nodes.{PathNode, field, index, key, list_element, map_key, map_value, is_node}
use Rattle.fv_path.specs.Texts.{node_text}
use Rattle.fv_path.specs.Reading.{stops, closes}

-- the digits that an index is written with
pub digits : IsNumeralModel (λ ds. list_all is_ascii_digit ds ≡ true) (digits_value 10)
digits = numerals_by_value (λ ds. list_all is_ascii_digit ds ≡ true) (search rules)

-- the node that a text begins with, told by its first bytes
abbrev part : ℕ → ℕ → PathNode
part second sixth = cond (second == 108) list_element (cond (sixth == 107) map_key map_value)

abbrev after_dot : List ℕ → PathNode
after_dot xs = cond (get_or xs 0 0 == 60) (part (get_or xs 1 0) (get_or xs 5 0)) (field (take_while continues_name xs))

abbrev after_bracket : List ℕ → PathNode
after_bracket xs = cond (get_or xs 0 0 == 34) (key (unwrap_or (content plain (drop 1 xs)) [])) (index (digits_value 10 (take_while is_ascii_digit xs)))

abbrev first_of : List ℕ → PathNode
first_of xs = cond (get_or xs 0 0 == 46) (after_dot (drop 1 xs)) (after_bracket (drop 1 xs))

-- a test that holds of each element and not of what follows
abbrev pub ends_at : (ℕ → Bool) → List ℕ → Bool
ends_at p [] = true
ends_at p (x ∷ xs) = not (p x)

take_while_end : (p : ℕ → Bool) (r : List ℕ) → ends_at p r ≡ true → take_while p r ≡ []
take_while_end p [] e = refl
take_while_end p (x ∷ xs) e = take_while-cons p x xs ∙ unless (p x) (x ∷ take_while p xs) e
  where
    unless : (b : Bool) (ys : List ℕ) → not b ≡ true → cond b ys [] ≡ []
    unless true ys h = absurd (false≢true h)
    unless false ys h = refl

pub take_while_all : (p : ℕ → Bool) (xs r : List ℕ) → list_all p xs ≡ true → ends_at p r ≡ true → take_while p (xs ++ r) ≡ xs
take_while_all p [] r all e = take_while_end p r e
take_while_all p (x ∷ xs) r all e =
    let h = and_parts (p x) (list_all p xs) all in
    take_while-cons p x (xs ++ r) ∙ rw h.0 (ap (λ ys. x ∷ ys) (take_while_all p xs r h.1 e))

pub stops_end : (r : List ℕ) → stops r ≡ true → ends_at continues_name r ≡ true
stops_end [] e = refl
stops_end (x ∷ xs) e = e

-- a name begins with no `<`, and digits with no quote
name_head : (b : ℕ) → begins_name b ≡ true → (b == 60) ≡ false
name_head b h = elim (cases_eq b 60) [ inl e ↦ absurd (false≢true (subst (λ x. begins_name x ≡ true) e h)) | inr ne ↦ ne_eqb b 60 ne ]

digit_head : (b : ℕ) → is_ascii_digit b ≡ true → (b == 34) ≡ false
digit_head b h = elim (cases_eq b 34) [ inl e ↦ absurd (false≢true (subst (λ x. is_ascii_digit x ≡ true) e h)) | inr ne ↦ ne_eqb b 34 ne ]

-- the parts of what a name is
pub record IsNamed (n : List ℕ) : Type 0 where
  pub some : 0 < length n
  pub begins : begins_name (get_or n 0 0) ≡ true
  pub continues : list_all continues_name n ≡ true

pub named : (n : List ℕ) → names n ≡ true → IsNamed n
named n h =
    let last = and_parts (nat_lt 0 (length n) && nat_le (length n) 64 && begins_name (get_or n 0 0)) (list_all continues_name n) h in
    let begins = and_parts (nat_lt 0 (length n) && nat_le (length n) 64) (begins_name (get_or n 0 0)) last.0 in
    let some = and_parts (nat_lt 0 (length n)) (nat_le (length n) 64) begins.0 in
    record { some = ltb-true 0 (length n) some.0; begins = begins.1; continues = last.1 }

first_of-field : (n r : List ℕ) → IsNamed n → stops r ≡ true → first_of (46 ∷ (n ++ r)) ≡ field n
first_of-field [] r h e = absurd (omega (arith, h.some))
first_of-field (b ∷ bs) r h e = rw (name_head b h.begins) (ap field (take_while_all continues_name (b ∷ bs) r h.continues (stops_end r e)))

first_of-digits : (ds r : List ℕ) → 0 < length ds → list_all is_ascii_digit ds ≡ true → first_of (91 ∷ (ds ++ 93 ∷ r)) ≡ index (digits_value 10 ds)
first_of-digits [] r some all = absurd (omega arith)
first_of-digits (b ∷ bs) r some all =
    let head = and_parts (is_ascii_digit b) (list_all is_ascii_digit bs) all in
    rw (digit_head b head.0) (ap (λ ds. index (digits_value 10 ds)) (take_while_all is_ascii_digit (b ∷ bs) (93 ∷ r) all refl))

first_of-index : (i : ℕ) (r : List ℕ) → i < 2 ^ 32 → first_of (node_text (index i) ++ r) ≡ index i
first_of-index i r small =
    let wide : i < 2 ^ 64 = omega arith in
    ap (λ l. first_of (91 ∷ l)) (append_assoc (decimal i) (93 ∷ []) r)
    ∙ first_of-digits (decimal i) r (decimal_nonempty i wide) (digits_decimal digits i wide)
    ∙ ap index (digits_value-decimal digits i wide)

-- what stands behind a key's escaped bytes
pub key_text : (k r : List ℕ) → node_text (key k) ++ r ≡ 91 ∷ 34 ∷ (escape k ++ 34 ∷ 93 ∷ r)
key_text k r = simp append_assoc

first_of-key : (k r : List ℕ) → first_of (node_text (key k) ++ r) ≡ key k
first_of-key k r = ap first_of (key_text k r) ∙ ap (λ o. key (unwrap_or o [])) (content-escape k (93 ∷ r))

-- what a node's text tells it by: a field has a name, an index 32 bits
abbrev pub is_told : PathNode → Bool
is_told (field n) = names n
is_told (index i) = nat_lt i (2 ^ 32)
is_told _ = true

pub told_node : (n : PathNode) → is_node n ≡ true → is_told n ≡ true
told_node (field n) sound = sound
told_node (index i) sound = sound
told_node (key k) sound = refl
told_node list_element sound = refl
told_node map_key sound = refl
told_node map_value sound = refl

-- a node is told from the text that it begins
pub first_of-node : (n : PathNode) (r : List ℕ) → is_told n ≡ true → closes n r ≡ true → first_of (node_text n ++ r) ≡ n
first_of-node (field n) r sound closed = first_of-field n r (named n sound) closed
first_of-node (index i) r sound closed = first_of-index i r (ltb-true i (2 ^ 32) sound)
first_of-node (key k) r sound closed = first_of-key k r
first_of-node list_element r sound closed = refl
first_of-node map_key r sound closed = refl
first_of-node map_value r sound closed = refl

-- two nodes that a text begins with are one
pub determined : (a b : PathNode) (s t : List ℕ) → is_told a ≡ true → is_told b ≡ true → closes a s ≡ true → closes b t ≡ true
    → node_text a ++ s ≡ node_text b ++ t → (a ≡ b) × (s ≡ t)
determined a b s t one two here there e =
    let same : a ≡ b = sym (first_of-node a s one here) ∙ ap first_of e ∙ first_of-node b t two there in
    (same, append_cancel_left (node_text a) s t (e ∙ ap (λ n. node_text n ++ t) (sym same)))
