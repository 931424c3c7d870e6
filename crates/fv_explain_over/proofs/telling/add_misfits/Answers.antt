use Rattle.std.proofs.Common.{[], ◌∷◌, ◌++◌, ◌+◌, ◌∙◌, ap, ap₂, append_assoc, length-append, map, string_bytes, append-nil, refl, sym}
use Rattle.std.proofs.lemmas.List.{map-append}
use Rattle.fv_bundle.specs.Names.{object_types_view}
use Rattle.fv_bundle.specs.TypesView.{types_view}
use Rattle.fv_explain_over.specs.Misfits.{IsMisfit, misfit_text}
use Rattle.fv_widening.specs.declared.narrowing.Narrowed.TheVariants as is
use Rattle.fv_explain_over.proofs.Zips.{zip_more}
use Rattle.fv_explain_over.proofs.telling.add_misfits.Goals as goal

pub loop-narrowed-init : goal.loop-narrowed-init
loop-narrowed-init c = ([], sym (append-nil (map string_bytes c.args.lines.now.items)), refl, λ plain. tt)

pub loop-narrowed-preserved : goal.loop-narrowed-preserved
loop-narrowed-preserved c =
    let was = c.loop-narrowed.invariant in
    let text = c.in_ok-text_of.field-0 in
    let line = string_bytes text in (
      was.0 ++ line ∷ [],
      ap (map string_bytes) c.in_ok-push.ensures.items ∙ map-append string_bytes c.loop-narrowed.lines.items (text ∷ [])
          ∙ ap (λ lines. lines ++ line ∷ []) was.1 ∙ append_assoc (map string_bytes c.args.lines.now.items) was.0 (line ∷ []),
      length-append was.0 (line ∷ []) ∙ ap (λ n. n + 1) was.2,
      λ plain.
          let why = c.in_ok-misfit.misfit.reason.text.now in
          zip_more (IsMisfit (types_view c.args.old.types.now) (object_types_view c.args.old.forms.now) (types_view c.args.new.types.now)) c.args.found.now was.0
          c.loop-narrowed.narrowed-index (is.Type 0) line c.loop-narrowed-test.true (was.3 plain)
          (why, c.in_ok-text_of.ensures.plain plain ∙ c.line.ensures ∙ ap₂ (λ place fault. misfit_text place fault why) c.in_ok-misfit.ensures.0 c.in_ok-misfit.ensures.1),
    )
