use Rattle.std.proofs.Common.{◌∷◌, length, refl, string_bytes, Global}
use Rattle.std.proofs.lemmas.Option.{same_Some}
use Rattle.std.proofs.lemmas.Str.{IsUtf8-string_bytes, is_utf8-from_IsUtf8}
use Rattle.json.specs.Print.{quoted}
use Rattle.fv_path.proofs.KeyNodes.{key_missing, key_cut, key_begins}
use Rattle.fv_path.proofs.text.read_key.Goals as goal

pub split_at-requires : goal.split_at-requires
split_at-requires c = c.in-Some.ensures.within

pub returns-in_default : goal.returns-in_default
returns-in_default c = key_missing c.args.text.now (λ k more utf8 e. c.in_default.not-Some (length (quoted k)) (c.string_len.ensures.found k (93 ∷ more) e))

pub returns-in_default-behind_bracket : goal.returns-in_default-behind_bracket
returns-in_default-behind_bracket c = key_missing c.args.text.now (λ k more utf8 e.
    let len = same_Some c.in-Some.len (length (quoted k)) (c.in-Some.ensures.found k (93 ∷ more) e) in
    let cut = key_cut c.args.text.now k more c.split_at.result.0.now c.split_at.result.1.now c.in-Some.len e len c.split_at.ensures.front c.split_at.ensures.back in
    c.in_default-behind_bracket.ensures more cut.1)

pub returns-in-None : goal.returns-in-None
returns-in-None c = key_missing c.args.text.now (λ k more utf8 e.
    let len = same_Some c.in-Some.len (length (quoted k)) (c.in-Some.ensures.found k (93 ∷ more) e) in
    let cut = key_cut c.args.text.now k more c.split_at.result.0.now c.split_at.result.1.now c.in-Some.len e len c.split_at.ensures.front c.split_at.ensures.back in
    (rw c.in-None.is at c.in_ok-key.ensures) k utf8 cut.0)

pub returns-in-Some-2 : goal.returns-in-Some-2
returns-in-Some-2 c =
    let ok = is_utf8-from_IsUtf8 (string_bytes c.in-Some-2.key) (IsUtf8-string_bytes {Z = Global} c.in-Some-2.key) in (
      refl,
      key_begins c.args.text.now (string_bytes c.in-Some-2.key) c.in-Some-behind_bracket.rest.now c.split_at.result.0.now c.split_at.result.1.now c.in-Some.len
          c.split_at.ensures.front c.split_at.ensures.back (rw c.in-Some-2.is at c.in_ok-key.ensures) c.in-Some-behind_bracket.ensures ok,
    )
