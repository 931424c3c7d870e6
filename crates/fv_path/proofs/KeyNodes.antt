-- The key that a text behind a bracket begins with.
use Rattle.std.proofs.Common.{◌≡◌, ℕ, ◌<◌, ◌≤◌, ◌^◌, true, List, [], ◌∷◌, ◌++◌, length, get_or, drop, take, IsUtf8, Option, Some, None, refl, sym, ap, ap₂, ◌∙◌, subst, arith, append_assoc, decimal}
use Rattle.std.specs.Borrow.{Bor}
use Rattle.std.specs.Char.{is_ascii_digit}
use Rattle.std.specs.List.{list_all}
use Rattle.std.proofs.lemmas.Bool.{false≢true, and_parts, ltb-true}
use Rattle.std.proofs.lemmas.Fmt.{digits_decimal, decimal_nonempty}
use Rattle.std.proofs.lemmas.List.{take_at, drop_at, take-append-drop}
use Rattle.std.proofs.lemmas.Str.{IsUtf8-from_is_utf8}
use Rattle.json.specs.Print.{quoted}
use Rattle.fv_path.specs.Nodes.{PathNode, field, index, key, list_element, map_key, map_value, is_node, is_key}
use Rattle.fv_path.specs.Reading.{Begins, BeginsWithNone, FindsNode}
use Rattle.fv_path.specs.Views.{node_view}
use Rattle.fv_path.specs.declared.node.Node.{Node}
use Rattle.fv_path.proofs.Determined.{digits}

-- no key stands there: no JSON string of a key does, with a bracket behind it
pub key_missing : (text : List ℕ) → ((k more : List ℕ) → IsUtf8 k → text ≡ quoted k ++ 93 ∷ more → ⊥) → BeginsWithNone is_key (91 ∷ text)
key_missing text none (key k) more kind b = none k more (IsUtf8-from_is_utf8 k b.node) (ap (drop 1) b.split ∙ append_assoc (quoted k) (93 ∷ []) more)
key_missing text none (field n) more kind b = false≢true kind
key_missing text none (index i) more kind b = false≢true kind
key_missing text none list_element more kind b = false≢true kind
key_missing text none map_key more kind b = false≢true kind
key_missing text none map_value more kind b = false≢true kind

-- the string's length cuts the text into the string and what stands behind it
pub key_cut : (text k more string rest : List ℕ) (n : ℕ) → text ≡ quoted k ++ 93 ∷ more → n ≡ length (quoted k) → string ≡ take n text → rest ≡ drop n text
    → (string ≡ quoted k) × (rest ≡ 93 ∷ more)
key_cut text k more string rest n e len front back = (
  front ∙ ap (take n) e ∙ take_at (quoted k) (93 ∷ more) n (sym len),
  back ∙ ap (drop n) e ∙ drop_at (quoted k) (93 ∷ more) n (sym len),
)

-- a key's string with a bracket behind it is a key
pub key_begins : (text k more string rest : List ℕ) (n : ℕ) → string ≡ take n text → rest ≡ drop n text → string ≡ quoted k → rest ≡ 93 ∷ more → is_node (key k) ≡ true
    → Begins (91 ∷ text) (key k) more
key_begins text k more string rest n front back is bracket ok = record {
  node = ok;
  split = ap (λ l. 91 ∷ l) (sym (take-append-drop n text) ∙ ap (λ l. l ++ drop n text) (sym front ∙ is) ∙ ap (λ l. quoted k ++ l) (sym back ∙ bracket) ∙ sym (append_assoc (quoted k) (93 ∷ []) more));
  closed = refl;
}

quote_head : (ds r more : List ℕ) → 0 < length ds → list_all is_ascii_digit ds ≡ true → ds ++ r ≡ 34 ∷ more → ⊥
quote_head [] r more some all e = omega arith
quote_head (d ∷ ds) r more some all e =
    let digit = (and_parts (is_ascii_digit d) (list_all is_ascii_digit ds) all).0 in
    let quote : d ≡ 34 = cc in
    false≢true (subst (λ x. is_ascii_digit x ≡ true) quote digit)

dot_bracket : (xs ys : List ℕ) → 46 ∷ xs ≡ 91 ∷ ys → ⊥
dot_bracket xs ys e = cc

behind : (text more : List ℕ) → text ≡ 91 ∷ 34 ∷ more → text ≡ 91 ∷ drop 1 text
behind text more e = e ∙ ap (λ l. 91 ∷ drop 1 l) (sym e)

-- behind a bracket a quote begins a key, and no other node
pub only_key : (text rest more : List ℕ) (n : PathNode) → text ≡ 91 ∷ 34 ∷ more → Begins text n rest → is_key n ≡ true
only_key text rest more (key k) e b = refl
only_key text rest more (index i) e b =
    let small : i < 2 ^ 32 = ltb-true i (2 ^ 32) b.node in
    absurd (quote_head (decimal i) (93 ∷ rest) more (decimal_nonempty i (omega arith)) (digits_decimal digits i (omega arith))
    (sym (append_assoc (decimal i) (93 ∷ []) rest) ∙ ap (drop 1) (sym b.split ∙ e)))
only_key text rest more (field n) e b = absurd (dot_bracket (n ++ rest) (34 ∷ more) (sym b.split ∙ e))
only_key text rest more list_element e b = absurd (dot_bracket _ _ (sym b.split ∙ e))
only_key text rest more map_key e b = absurd (dot_bracket _ _ (sym b.split ∙ e))
only_key text rest more map_value e b = absurd (dot_bracket _ _ (sym b.split ∙ e))

-- what `read_key` finds behind the bracket is what the text begins with
pub key_found : (text more : List ℕ) (o : Option (Node × Bor (List ℕ))) → text ≡ 91 ∷ 34 ∷ more → FindsNode is_key (91 ∷ drop 1 text) o → FindsNode (λ _. true) text o
key_found text more None e none = λ n rest kind b. none n rest (only_key text rest more n e b) (subst (λ l. Begins l n rest) (behind text more e) b)
key_found text more (Some p) e found = (refl, subst (λ l. Begins l (node_view p.0) p.1.now) (sym (behind text more e)) found.1)

pub two_bytes : (text : List ℕ) → 2 ≤ length text → get_or text 0 0 ≡ 91 → get_or text 1 0 ≡ 34 → text ≡ 91 ∷ 34 ∷ drop 2 text
two_bytes [] long first second = absurd (omega arith)
two_bytes (x ∷ []) long first second = absurd (omega arith)
two_bytes (x ∷ y ∷ zs) long first second = ap₂ (λ a b. a ∷ b ∷ zs) first second
