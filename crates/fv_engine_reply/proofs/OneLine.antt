-- The compact text of JSON data is one line, and what reads as data is a document.
use Rattle.std.proofs.Common.{◌≡◌, ◌≢◌, ℕ, zero, suc, pos, negsuc, ◌+◌, ◌/◌, ◌%◌, Bool, true, false, cond, not, ◌&&◌, ◌||◌, ◌==◌, nat_lt, List, [], ◌∷◌, ◌++◌, decimal, Option, Some, None, IsSome, option_and_then, inl, inr, refl, ap, ◌∙◌, arith}
use Rattle.std.proofs.ByRecursion.{All-append}
use Rattle.std.proofs.lemmas.Bool.{eqb-true, eqb-false, ltb-false, or_cases}
use Rattle.std.specs.List.{AllByRecursion, list_all}
use Rattle.std.specs.Char.{digit_char}
use Rattle.std.specs.Fmt.{digit_glyph, digits_onto, digits}
use Rattle.json.specs.Token.{Token}
use Rattle.json.specs.Print.{escape_letter, escape_byte, escape, quoted}
use Rattle.json.specs.Lex.{tokens}
use Rattle.json.specs.Json.{Json, value, if_last, document}
use Rattle.json.specs.Json as tree
use Rattle.json.proofs.Nesting.{value-depth}
use Rattle.json.proofs.Unique.Spelling.{value-json_tokens_back}
use Rattle.json.proofs.Printed.Trees.{value-json_tokens}
use Rattle.serde_json.specs.Data as json
use Rattle.serde_json.specs.Read.{of_json, read}
use Rattle.serde_json.specs.Read as reading
use Rattle.serde_json.specs.Written.{number_text, comma_if, compact_text, items_text, members_text}

-- ---- one line

abbrev OneLine : List ℕ → Type 0
OneLine = AllByRecursion (λ b. b ≢ 10)

pub both : (xs ys : List ℕ) → OneLine xs → OneLine ys → OneLine (xs ++ ys)
both = All-append (λ b. b ≢ 10)

-- no byte is 10, as a test tells
pub none_ends : (xs : List ℕ) → list_all (λ b. not (b == 10)) xs ≡ true → OneLine xs
none_ends [] e = tt
none_ends (x ∷ xs) e = by (x == 10) refl e (λ more. none_ends xs more)
  where
    by : (b : Bool) → (x == 10) ≡ b → (not b && list_all (λ b. not (b == 10)) xs) ≡ true → (list_all (λ b. not (b == 10)) xs ≡ true → OneLine xs) → OneLine (x ∷ xs)
    by true is e more = cc
    by false is e more = (eqb-false x 10 is, more e)

-- a letter or a digit, whatever the test says
glyph : (t : Bool) (d : ℕ) → cond t (48 + d) (87 + d) ≢ 10
glyph true d e = omega arith
glyph false d e = omega arith

letter : (x : ℕ) → escape_letter x ≢ 10
letter x = by ((x == 34) || (x == 92)) (x == 8) (x == 12) (x == 10) (x == 13) (x == 9) refl
  where
    named : (x : ℕ) → ((x == 34) || (x == 92)) ≡ true → x ≢ 10
    named x e is = elim (or_cases (x == 34) (x == 92) e) [
      | inl a ↦ omega (arith, eqb-true x 34 a)
      | inr b ↦ omega (arith, eqb-true x 92 b)
    ]

    by : (a b c d f g : Bool) → ((x == 34) || (x == 92)) ≡ a → cond a x (cond b 98 (cond c 102 (cond d 110 (cond f 114 (cond g 116 0))))) ≢ 10
    by true b c d f g e = named x e
    by false true c d f g e = λ is. omega arith
    by false false true d f g e = λ is. omega arith
    by false false false true f g e = λ is. omega arith
    by false false false false true g e = λ is. omega arith
    by false false false false false true e = λ is. omega arith
    by false false false false false false e = λ is. omega arith

byte : (x : ℕ) → OneLine (escape_byte x)
unfolding escape_byte
byte x = by (nat_lt 0 (escape_letter x)) (nat_lt x 32) refl
  where
    by : (a b : Bool) → nat_lt x 32 ≡ b → OneLine (cond a (92 ∷ escape_letter x ∷ []) (cond b (92 ∷ 117 ∷ 48 ∷ 48 ∷ digit_char (x / 16) ∷ digit_char (x % 16) ∷ []) (x ∷ [])))
    by true b e = (λ is. omega arith, (letter x, tt))
    by false true e = (λ is. omega arith, (λ is. omega arith, (λ is. omega arith, (λ is. omega arith, (glyph (nat_lt (x / 16) 10) (x / 16), (glyph (nat_lt (x % 16) 10) (x % 16), tt))))))
    by false false e = (λ is. omega (arith, ltb-false x 32 e), tt)

escaped : (s : List ℕ) → OneLine (escape s)
escaped [] = tt
escaped (x ∷ xs) = both (escape_byte x) (escape xs) (byte x) (escaped xs)

pub in_quotes : (s : List ℕ) → OneLine (quoted s)
in_quotes s = (λ e. omega arith, both (escape s) (34 ∷ []) (escaped s) (λ e. omega arith, tt))

spelled : (k n : ℕ) (acc : List ℕ) → OneLine acc → OneLine (digits_onto k 10 false n acc)
spelled zero n acc h = h
spelled (suc k) n acc h =
    let more : OneLine (digit_glyph false (n % 10) ∷ acc) = (glyph (nat_lt (n % 10) 10) (n % 10), h) in
    by (n / 10 == 0) _ _ more (spelled k (n / 10) (digit_glyph false (n % 10) ∷ acc) more)
  where
    by : (t : Bool) (xs ys : List ℕ) → OneLine xs → OneLine ys → OneLine (cond t xs ys)
    by true xs ys p q = p
    by false xs ys p q = q

in_decimal : (n : ℕ) → OneLine (decimal n)
unfolding digits
in_decimal n = spelled 64 n [] tt

in_number : (n : json.Num) → OneLine (number_text n)
in_number (json.unsigned n) = in_decimal n
in_number (json.negative (pos n)) = in_decimal n
in_number (json.negative (negsuc n)) = (λ e. omega arith, in_decimal (suc n))
in_number (json.float x) = tt

in_comma : (later : Bool) → OneLine (comma_if later)
in_comma true = (λ e. omega arith, tt)
in_comma false = tt

mutual
  pub one_line : (d : json.Data) → AllByRecursion (λ b. b ≢ 10) (compact_text d)
  one_line json.null = (λ e. omega arith, (λ e. omega arith, (λ e. omega arith, (λ e. omega arith, tt))))
  one_line (json.boolean true) = (λ e. omega arith, (λ e. omega arith, (λ e. omega arith, (λ e. omega arith, tt))))
  one_line (json.boolean false) = (λ e. omega arith, (λ e. omega arith, (λ e. omega arith, (λ e. omega arith, (λ e. omega arith, tt)))))
  one_line (json.number n) = in_number n
  one_line (json.string s) = in_quotes s
  one_line (json.array ds) = (λ e. omega arith, one_line_items false ds)
  one_line (json.object ms) = (λ e. omega arith, one_line_members false ms)

  pub one_line_items : (later : Bool) (ds : json.Items) → AllByRecursion (λ b. b ≢ 10) (items_text later ds)
  one_line_items later json.no_items = (λ e. omega arith, tt)
  one_line_items later (json.item d ds) = both (comma_if later) _ (in_comma later) (both (compact_text d) (items_text true ds) (one_line d) (one_line_items true ds))

  pub one_line_members : (later : Bool) (ms : json.Members) → AllByRecursion (λ b. b ≢ 10) (members_text later ms)
  one_line_members later json.no_members = (λ e. omega arith, tt)
  one_line_members later (json.member k d ms) =
      both (comma_if later) _ (in_comma later) (both (quoted k) _ (in_quotes k) (λ e. omega arith, both (compact_text d) (members_text true ms) (one_line d) (one_line_members true ms)))

-- ---- a document

never : {A B : Type 0} (f : A → Option B) (b : B) → option_and_then f None ≡ Some b → ⊥
never f b e = cc

-- serde_json reads no deeper than 127, and json no deeper than 128
deeper : (ts : List Token) (j : Json) → value reading.max_depth ts ≡ Some (j, []) → value tree.max_depth ts ≡ Some (j, [])
deeper ts j e =
    ap (value tree.max_depth) (value-json_tokens_back reading.max_depth ts [] j e)
    ∙ value-json_tokens j tree.max_depth [] (omega (arith, value-depth reading.max_depth ts [] j e))

last : (ts : List Token) (o : Option (Json × List Token)) → value reading.max_depth ts ≡ o → (d : json.Data)
    → option_and_then of_json (option_and_then (λ p. if_last p.0 p.1) o) ≡ Some d → IsSome (option_and_then (λ p. if_last p.0 p.1) (value tree.max_depth ts))
last ts None e d r = absurd (never (λ p. p) d r)
last ts (Some (j, [])) e d r = rw (deeper ts j e) refl
last ts (Some (j, t ∷ more)) e d r = absurd (never (λ p. p) d r)

pub is_document : (text : List ℕ) (d : json.Data) → read text ≡ Some d → IsSome (document text)
is_document text d r = last (tokens text) (value reading.max_depth (tokens text)) refl d r
