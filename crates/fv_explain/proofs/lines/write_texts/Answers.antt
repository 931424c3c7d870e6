use Rattle.std.proofs.Common.{rules, ◌≡◌, ◌∷◌, ◌∙◌, ℕ, List, ap, map, string_bytes, sym}
use Rattle.std.proofs.Output.{has_written_append, has_written_of_eq}
use lib.Utf8.{encode}
use Rattle.fv_explain.proofs.Attributes.{texts_all}
use Rattle.fv_explain.proofs.lines.write_texts.Goals as goal

pub returns : goal.returns
unfolding encode
returns g c = λ plain ok.
    let first = c.write.ensures.writes plain (search rules) in
    let so_far = has_written_append _ _ _ _ _ _ first (c.loop-other.invariant first.plain) in
    let is : map string_bytes c.args.texts.now ≡ c.as_str.result.now ∷ map string_bytes c.in-Some.others.now =
    ap (map string_bytes) c.in-Some.ensures.cases.0 ∙ ap (λ (t : List ℕ). t ∷ map string_bytes c.in-Some.others.now) (sym c.as_str.ensures.value) in
    has_written_of_eq _ _ _ _ _ (texts_all c.args.texts.now c.in-Some.others.now c.as_str.result.now c.loop-other.other-index is c.loop-other-test.false)
    (has_written_append _ _ _ _ _ _ so_far (c.write_char.ensures.writes so_far.plain ok))
