use Rattle.std.proofs.Common.{[], ◌∷◌, ◌++◌, ◌∙◌, ℕ, List, String, Global, ap, map, string_bytes}
use Rattle.std.proofs.lemmas.List.{map-append}
use Rattle.fv_explain.proofs.explaining.taken_lines.Goals as goal

pub returns : goal.returns
returns g c =
    let text = c.in_ok-text_of.field-0 in
    let told = c.in_ok-add_draft.ensures in
    let last = string_bytes text ∷ [] in (
      told.0,
      string_bytes text,
      ap (map string_bytes) c.in_ok-push.ensures.items ∙ map-append string_bytes c.add_draft.new.lines.texts.items (text ∷ [])
          ∙ ap (λ (ls : List (List ℕ)). ls ++ last)
          (told.1.0 ∙ ap (λ (ts : List (String Global)). map string_bytes ts ++ told.0) c.new-texts.ensures.items),
      λ plain. c.in_ok-text_of.ensures plain ∙ c.limits.ensures,
      told.2,
    )
