use Rattle.std.proofs.Common.{◌≡◌, ℕ, List, [], ◌∷◌, string_bytes, rules, ◌∙◌, append-nil}
use Rattle.json.specs.Print.{print, print_from, quoted}
use Rattle.json.specs.Token.{string}
use Rattle.fv_model.proofs.text.quoted.Goals as goal

one : (text : List ℕ) → print (string text ∷ []) ≡ quoted text
unfolding print_from
one text = append-nil (quoted text)

pub returns : goal.returns
returns c =
    let written : string_bytes c.text_of.result ≡ print (string c.args.text.now ∷ []) = search rules in
    written ∙ one c.args.text.now
