use Rattle.std.proofs.Common.{◌≡◌, ℕ, List, [], ◌∷◌, ◌++◌, flat_map, ap, ◌∙◌, sym, append-nil, map-id, rules}
use Rattle.std.proofs.Output.{has_written_append, has_written_of_eq}
use Rattle.std.proofs.lemmas.Iterator.{YieldsList-from_chars}
use Rattle.std.proofs.lemmas.Iterator.Consumers.{YieldsList-end}
use Rattle.std.proofs.lemmas.List.Concat.{flat_map-append}
use Rattle.std.specs.Str.{chars}
use lib.Utf8.{encode}
use Rattle.fv_explain_faults.specs.Quoted.{quoted_character}
use Rattle.fv_explain_faults.proofs.shown.write_quoted.Goals as goal

one_more : (cs : List ℕ) (c : ℕ) → flat_map quoted_character cs ++ quoted_character c ≡ flat_map quoted_character (cs ++ c ∷ [])
one_more cs c = sym (flat_map-append quoted_character cs (c ∷ []) ∙ ap (λ more. flat_map quoted_character cs ++ more) (append-nil (quoted_character c)))

pub loop-character-preserved : goal.loop-character-preserved
loop-character-preserved g c =
    λ plain.
    has_written_of_eq _ _ _ _ _ (ap (λ cs. 34 ∷ cs) (one_more c.loop-character.yielded c.in-Some.character))
    (has_written_append _ _ _ _ _ _ (c.loop-character.invariant plain) (search rules))

pub returns : goal.returns
unfolding encode
returns g c =
    let all = YieldsList-end (YieldsList-from_chars c.args.text.now c.utf8.text cc) c.loop-character.yielded _ c.loop-character.yielded_by _ _ c.in-None.is c.next.ensures.steps in
    let whole : c.loop-character.yielded ≡ chars c.args.text.now = sym (map-id c.loop-character.yielded) ∙ all.0 in
    λ plain ok.
    let so_far = c.loop-character.invariant plain in
    has_written_of_eq _ _ _ _ _ (ap (λ cs. (34 ∷ flat_map quoted_character cs) ++ 34 ∷ []) whole)
    (has_written_append _ _ _ _ _ _ so_far (c.write_char-2.ensures.writes so_far.plain ok))
