-- A key's JSON string is read back.
use Rattle.std.proofs.Common.{◌≡◌, ℕ, List, [], ◌∷◌, Option, Some, None, refl, sym, ap, ◌∙◌, append-nil}
use Rattle.std.specs.Option.{option_and_then}
use Rattle.std.proofs.lemmas.Option.{none-some, same_Some}
use Rattle.json.specs.Json as json
use Rattle.json.specs.Json.{value, items, members}
use Rattle.json.specs.Lex.{tokens}
use Rattle.json.specs.Print.{quoted, print_from, ArePrintable}
use Rattle.json.specs.Token as token
use Rattle.json.specs.Token.{Token}
use Rattle.json.proofs.Printed.Tokens.{tokens-print}
use Rattle.serde_json.specs.Data.{Data, string}
use Rattle.serde_json.specs.Read.{read, of_json, max_depth}

tokens-quoted : (k : List ℕ) → tokens (quoted k) ≡ token.string k ∷ []
unfolding print_from ArePrintable
tokens-quoted k = ap tokens (sym (append-nil (quoted k))) ∙ tokens-print (token.string k ∷ []) (tt, tt)

abbrev read_tokens : List Token → Option Data
read_tokens ts = option_and_then of_json (option_and_then (λ p. json.if_last p.0 p.1) (json.value max_depth ts))

one_token : (k : List ℕ) → read_tokens (token.string k ∷ []) ≡ Some (string k)
unfolding value
one_token k = refl

read-quoted : (k : List ℕ) → read (quoted k) ≡ Some (string k)
read-quoted k = ap read_tokens (tokens-quoted k) ∙ one_token k

-- the string that a text reads as is the key whose JSON string it is
pub key_read : (text k : List ℕ) (d : Data) → text ≡ quoted k → read text ≡ Some d → d ≡ string k
key_read text k d e seen = same_Some d (string k) (sym seen ∙ ap read e ∙ read-quoted k)

-- a text that isn't read is no JSON string of a key
pub key_unread : (text k : List ℕ) → text ≡ quoted k → read text ≡ None → ⊥
key_unread text k e none = none-some (string k) (sym none ∙ ap read e ∙ read-quoted k)
