-- The JSON value of bytes.
use Rattle.std.proofs.Common.{◌≡◌, ℕ, List, Bool, true, false, Option, None, refl}
use Rattle.std.specs.Str.{IsUtf8, is_utf8}
use Rattle.std.proofs.lemmas.Str.{IsUtf8-from_is_utf8, is_utf8-from_IsUtf8}
use Rattle.serde_json.specs.Data as json
use Rattle.serde_json.specs.Read.{read}
use Rattle.fv_datum.specs.Parsing.{json_of}

not_utf8 : (bs : List ℕ) (b : Bool) → is_utf8 bs ≡ b → ¬ (IsUtf8 bs) → b ≡ false
not_utf8 bs true e not = absurd (not (IsUtf8-from_is_utf8 bs e))
not_utf8 bs false e not = refl

pub json_none : (bs : List ℕ) → ¬ (IsUtf8 bs) → json_of bs ≡ None
json_none bs not = rw (not_utf8 bs (is_utf8 bs) refl not) refl

pub json_some : (bs : List ℕ) (o : Option json.Data) → IsUtf8 bs → read bs ≡ o → json_of bs ≡ o
json_some bs o is e = rw (is_utf8-from_IsUtf8 bs is) e
