-- Where a JSON string ends.
use Rattle.std.proofs.Common.{◌≡◌, ℕ, ◌+◌, ◌<◌, ◌≤◌, zero, suc, Bool, true, false, cond, ◌&&◌, ◌==◌, List, [], ◌∷◌, ◌++◌, length, get_or, drop, Option, Some, None, refl, sym, ap, ◌∙◌, inl, inr, arith, append_assoc}
use Rattle.std.specs.Option.{option_map}
use Rattle.std.proofs.lemmas.Bool.{ne_eqb, eqb-true, and_parts, cases_lt, cases_eq}
use Rattle.std.proofs.lemmas.List.{length-append, drop_more, drop_all}
use Rattle.json.specs.Print.{escape_byte, escape, quoted}
use Rattle.json.proofs.Printed.Strings.{escape_byte_plain}

-- how many bytes a string goes on, its closing quote included: `escaped` tells that a backslash stands before
abbrev pub left_of : Bool → List ℕ → Option ℕ
left_of escaped [] = None
left_of true (x ∷ xs) = option_map suc (left_of false xs)
left_of false (x ∷ xs) = cond (x == 34) (Some 1) (option_map suc (left_of (x == 92) xs))

-- so many bytes more
abbrev pub further : ℕ → Option ℕ → Option ℕ
further n o = option_map (λ m. n + m) o

further_zero : (o : Option ℕ) → o ≡ further 0 o
further_zero None = refl
further_zero (Some m) = ap Some (omega arith)

suc_further : (n : ℕ) (o : Option ℕ) → option_map suc (further n o) ≡ further (suc n) o
suc_further n None = refl
suc_further n (Some m) = ap Some (omega arith)

-- neither a quote nor a backslash
abbrev plain_bytes : List ℕ → Bool
plain_bytes [] = true
plain_bytes (x ∷ xs) = cond (x == 34) false (cond (x == 92) false (plain_bytes xs))

plain_step : (q b : Bool) (x : ℕ) (xs r : List ℕ) → q ≡ (x == 34) → b ≡ (x == 92) → cond q false (cond b false (plain_bytes xs)) ≡ true
    → (plain_bytes xs ≡ true → left_of false (xs ++ r) ≡ further (length xs) (left_of false r))
    → cond q (Some 1) (option_map suc (left_of b (xs ++ r))) ≡ further (suc (length xs)) (left_of false r)
plain_step true b x xs r e f h more = absurd cc
plain_step false true x xs r e f h more = absurd cc
plain_step false false x xs r e f h more = ap (option_map suc) (more h) ∙ suc_further (length xs) (left_of false r)

left_of-plain : (xs r : List ℕ) → plain_bytes xs ≡ true → left_of false (xs ++ r) ≡ further (length xs) (left_of false r)
left_of-plain [] r h = further_zero (left_of false r)
left_of-plain (x ∷ xs) r h = plain_step (x == 34) (x == 92) x xs r refl refl h (left_of-plain xs r)

-- bytes that are passed over: plain ones, or a backslash, any byte and plain ones
abbrev after_backslash : List ℕ → Bool
after_backslash [] = false
after_backslash (y ∷ ys) = plain_bytes ys

abbrev passed : List ℕ → Bool
passed [] = true
passed (x ∷ xs) = cond (x == 92) (after_backslash xs) (plain_bytes (x ∷ xs))

left_of-escaped : (xs r : List ℕ) → after_backslash xs ≡ true → left_of true (xs ++ r) ≡ further (length xs) (left_of false r)
left_of-escaped [] r h = absurd cc
left_of-escaped (y ∷ ys) r h = ap (option_map suc) (left_of-plain ys r h) ∙ suc_further (length ys) (left_of false r)

pass_by : (b : Bool) (x : ℕ) (xs r : List ℕ) → b ≡ (x == 92) → cond b (after_backslash xs) (cond (x == 34) false (cond b false (plain_bytes xs))) ≡ true
    → cond (x == 34) (Some 1) (option_map suc (left_of b (xs ++ r))) ≡ further (suc (length xs)) (left_of false r)
pass_by true x xs r e h =
    rw (eqb-true x 92 (sym e)) (ap (option_map suc) (left_of-escaped xs r h) ∙ suc_further (length xs) (left_of false r))
pass_by false x xs r e h = plain_step (x == 34) false x xs r refl e h (left_of-plain xs r)

pass : (xs r : List ℕ) → passed xs ≡ true → left_of false (xs ++ r) ≡ further (length xs) (left_of false r)
pass [] r h = further_zero (left_of false r)
pass (x ∷ xs) r h = pass_by (x == 92) x xs r refl h

-- the escapes of the bytes below n are passed over
abbrev passed_below : ℕ → Bool
passed_below zero = true
passed_below (suc n) = passed (escape_byte n) && passed_below n

passed_at : (n : ℕ) → passed_below n ≡ true → (x : ℕ) → x < n → passed (escape_byte x) ≡ true
passed_at zero e x h = absurd (omega arith)
passed_at (suc n) e x h =
    let p = and_parts (passed (escape_byte n)) (passed_below n) e in
    elim (cases_eq x n) [ inl same ↦ rw same p.0 | inr other ↦ passed_at n p.1 x (omega arith) ]

all_passed : passed_below 128 ≡ true
unfolding escape_byte
all_passed = refl

passed_byte : (x : ℕ) → passed (escape_byte x) ≡ true
passed_byte x = elim (cases_lt x 128) [
  | inl small ↦ passed_at 128 all_passed x small
  | inr big ↦ rw (escape_byte_plain x (λ e. omega arith) (λ e. omega arith) (omega arith), ne_eqb x 92 (λ e. omega arith), ne_eqb x 34 (λ e. omega arith)) refl
]

left_of-escape : (k r : List ℕ) → left_of false (escape k ++ 34 ∷ r) ≡ Some (length (escape k) + 1)
left_of-escape [] r = ap Some (omega arith)
left_of-escape (x ∷ k) r =
    let longer : length (escape_byte x) + (length (escape k) + 1) ≡ length (escape_byte x ++ escape k) + 1 = omega (arith, length-append (escape_byte x) (escape k)) in
    ap (left_of false) (append_assoc (escape_byte x) (escape k) (34 ∷ r)) ∙ pass (escape_byte x) (escape k ++ 34 ∷ r) (passed_byte x)
    ∙ ap (further (length (escape_byte x))) (left_of-escape k r) ∙ ap Some longer

-- a text that begins with a JSON string tells where that ends
pub ends_string : (text k r : List ℕ) → text ≡ quoted k ++ r → further 1 (left_of false (drop 1 text)) ≡ Some (length (quoted k))
ends_string text k r e =
    let size : 1 + (length (escape k) + 1) ≡ suc (length (escape k ++ 34 ∷ [])) = omega (arith, length-append (escape k) (34 ∷ [])) in
    ap (λ l. further 1 (left_of false (drop 1 l))) e ∙ ap (λ l. further 1 (left_of false l)) (append_assoc (escape k) (34 ∷ []) r)
    ∙ ap (further 1) (left_of-escape k r) ∙ ap Some size

-- what is left where the loop ends
pub at_quote : (text : List ℕ) (i : ℕ) → i < length text → get_or text i 0 ≡ 34 → further i (left_of false (drop i text)) ≡ Some (i + 1)
at_quote text i h e = ap (λ l. further i (left_of false l)) (drop_more text i 0 h) ∙ ap (λ x. further i (left_of false (x ∷ drop (i + 1) text))) e

pub at_end : (text : List ℕ) (escaped : Bool) (i : ℕ) → length text ≤ i → further i (left_of escaped (drop i text)) ≡ None
at_end text escaped i h = ap (λ l. further i (left_of escaped l)) (drop_all i text h)
