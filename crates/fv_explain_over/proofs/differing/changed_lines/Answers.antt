use Rattle.std.proofs.Common.{◌≡◌, [], ◌++◌, append-nil, length, map, string_bytes, ap, sym, ◌∙◌, arith, rules}
use Rattle.std.proofs.lemmas.List.{length-map}
use Rattle.serde_json.specs.View.{view}
use Rattle.fv_explain_over.specs.Adding.{found_view}
use Rattle.fv_explain_over.specs.Changes.{change_text}
use Rattle.fv_explain_over.proofs.ToldLemmas.{are_changes, seen}
use Rattle.fv_explain_over.proofs.differing.changed_lines.Goals as goal

pub returns : goal.returns
returns c =
    let m = c.in_ok-changes.field-0 in
    let end : c.loop-place.place-iterator ≡ [] = search rules in
    let start : c.into_iter-place-iterator.result ≡ m.entries = search rules in
    let lines = map string_bytes c.loop-place.lines.items in (
      found_view m,
      omega (arith, c.loop-place.invariant.0, ap length end, ap length start, length-map m.entries seen),
      λ plain. sym (append-nil lines) ∙ ap (λ es. lines ++ map change_text (map seen es)) (sym end) ∙ c.loop-place.invariant.1 plain ∙ ap (λ es. map change_text (map seen es)) start,
      are_changes (view c.args.old.now) (view c.args.new.now) m c.iter-place-items.ensures.ordered c.in_ok-changes.ensures,
    )
