use Rattle.std.proofs.Common.{[], ◌∷◌, ◌++◌, ◌∙◌, ap, append_assoc, length, map, string_bytes, subst}
use Rattle.std.specs.List.{AllZip}
use Rattle.std.proofs.lemmas.List.{map-append}
use Rattle.fv_bundle.specs.Names.{object_types_view}
use Rattle.fv_bundle.specs.TypesView.{types_view}
use Rattle.fv_explain_over.specs.Misfits.{IsMisfit}
use Rattle.fv_explain_over.proofs.telling.tell_over.Goals as goal

pub returns-clause-lines : goal.returns-clause-lines
returns-clause-lines c =
    let more = c.in_ok-add_misfits.ensures in
    let changed = map string_bytes c.in_ok-lines.lines.items in
    let text = c.in_ok-text_of.field-0 in
    let last = string_bytes text ∷ [] in
    let old = types_view c.args.old.types.now in
    let forms = object_types_view c.args.old.forms.now in
    let new = types_view c.args.new.types.now in
    let found = c.deref.ensures.value ∙ c.in_ok-found.ensures.exact in (
      changed,
      more.0,
      string_bytes text,
      ap (map string_bytes) c.in_ok-push.ensures.items ∙ map-append string_bytes c.add_misfits.new.lines.items (text ∷ [])
          ∙ ap (λ lines. lines ++ last) more.1 ∙ append_assoc changed more.0 last,
      c.in_ok-lines.ensures,
      more.2 ∙ ap length found,
      λ plain. (subst (λ ns. AllZip (IsMisfit old forms new) ns more.0) found (more.3 plain), c.in_ok-text_of.ensures.plain plain ∙ c.records_text-text.ensures),
    )
