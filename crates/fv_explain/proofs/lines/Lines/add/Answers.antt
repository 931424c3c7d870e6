use Rattle.std.proofs.Common.{[], ◌∷◌, ◌∙◌, ap, map, refl, string_bytes}
use Rattle.std.proofs.lemmas.List.{map-append}
use Rattle.fv_explain.proofs.lines.Lines.add.Goals as goal

pub returns : goal.returns
returns c =
    let text = c.in_ok-text_of.field-0 in (
      string_bytes text,
      (ap (map string_bytes) c.in_ok-push.ensures.items ∙ map-append string_bytes c.args.self.now.texts.items (text ∷ []), refl),
      λ plain. c.in_ok-text_of.ensures plain,
    )
